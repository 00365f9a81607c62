-- References (ES3 8.7): what a name or a member stands for before it is read, written or deleted.
use Rattle.std.specs.Prelude.{ℕ, Bool, true, false, not, List, [], ◌∷◌, Option, Some, None, is_some, length, slice_get, pos, if◌then◌else◌}
use Rattle.caja_units.specs.Units.{same_units}
use Rattle.es3_objects.specs.declared.value.Value.{Value}
use Rattle.es3_objects.specs.declared.value.Value.TheVariants.{Undefined, Null, Bool as Truth, Num, Text, Obj}
use Rattle.es3_objects.specs.declared.value.Proto.TheVariants as proto
use Rattle.es3_heap.specs.Objects.{Objects}
use Rattle.es3_heap.specs.Properties.{get, put, lookup, length_key, can_delete}
use Rattle.es3_heap.specs.Making.{proto_id}
use Rattle.es3_language.specs.Store.{Owner, activation, with_object_of, Scope, Store, name_value, scope_at, with_heap, with_slot}
use Rattle.es3_language.specs.Arguments.{arguments_name, is_arguments, write_slot, put_member, delete_member}

pub data Ref : Type 0 where
  -- a name that no scope has
  unresolved : List ℕ → Ref
  -- a name of a scope
  slot : ℕ → List ℕ → Ref
  -- 10.1.8: `arguments` of an activation whose arguments object isn't made yet
  own_arguments : ℕ → Ref
  -- a name that the object of a `with` has
  in_object : ℕ → List ℕ → Ref
  -- a name of the global object
  named : ℕ → List ℕ → Ref
  -- a member of a value
  member : Value → List ℕ → Ref
  -- no reference, but a value
  just : Value → Ref

-- names

-- 10.1.4: a name, where no scope has it
abbrev pub global_name : Store → List ℕ → Ref
global_name s x = if is_some (lookup s.heap s.globals x) then named s.globals x else unresolved x

-- 12.10: a name, where the object of a `with` may have it
abbrev pub in_owner : Owner → Store → List ℕ → Ref → Ref
in_owner (with_object_of o) s x further = if is_some (lookup s.heap o x) then in_object o x else further
in_owner w s x further = further

abbrev pub in_with : Option Scope → Store → List ℕ → Ref → Ref
in_with None s x further = further
in_with (Some scope) s x further = in_owner scope.owner s x further

-- 10.1.4: a name other than `arguments`, in the first scope of the chain that has it
abbrev pub resolve : List ℕ → Store → List ℕ → Ref
resolve [] s x = global_name s x
resolve (c ∷ chain) s x =
    if is_some (name_value x (scope_at (slice_get s.scopes c))) then slot c x
    else in_with (slice_get s.scopes c) s x (resolve chain s x)

-- 10.1.8: each activation has the name `arguments`
abbrev pub arguments_of : Owner → ℕ → Store → Ref → Ref
arguments_of (activation f xs vs) c s further = own_arguments c
arguments_of w c s further = in_owner w s arguments_name further

abbrev pub arguments_at : Option Scope → ℕ → Store → Ref → Ref
arguments_at None c s further = further
arguments_at (Some scope) c s further = arguments_of scope.owner c s further

abbrev pub resolve_arguments : List ℕ → Store → Ref
resolve_arguments [] s = global_name s arguments_name
resolve_arguments (c ∷ chain) s =
    if is_some (name_value arguments_name (scope_at (slice_get s.scopes c))) then slot c arguments_name
    else arguments_at (slice_get s.scopes c) c s (resolve_arguments chain s)

-- 10.1.4, 11.1.2: what a name stands for
abbrev pub reference : List ℕ → Store → List ℕ → Ref
reference chain s x = if is_arguments x then resolve_arguments chain s else resolve chain s x

-- members

-- 11.2.1: a member of a value; undefined and null have none
abbrev pub member_of : Value → List ℕ → Option Ref
member_of Undefined k = None
member_of Null k = None
member_of v k = Some (member v k)

-- 8.6.2.1 and 9.9: the value of a member; what is no object has the members of its prototype, and a text its length (15.5.5.1)
abbrev pub get_member : Objects → Value → List ℕ → Value
get_member h (Obj o) k = get h o k
get_member h (Text us) k = if same_units k length_key then Num (pos (length us)) else get h (proto_id proto.String) k
get_member h (Num n) k = get h (proto_id proto.Number) k
get_member h (Truth b) k = get h (proto_id proto.Boolean) k
get_member h v k = Undefined

-- reading, writing, deleting

-- 8.7.1: the value of a reference, and none for a name that no scope has; an arguments object is there before it is read
abbrev pub read : Ref → Store → Option Value
read (unresolved x) s = None
read (slot c x) s = name_value x (scope_at (slice_get s.scopes c))
read (own_arguments c) s = None
read (in_object o x) s = Some (get s.heap o x)
read (named o x) s = Some (get s.heap o x)
read (member v k) s = Some (get_member s.heap v k)
read (just v) s = Some v

-- 11.2.3: the receiver of a call of the reference
abbrev pub base_of : Ref → Value
base_of (in_object o x) = Obj o
base_of (member v k) = v
base_of r = Undefined

-- 8.7.2: a value for a reference. A name that no scope has becomes one of the global object; what is no object keeps no member
abbrev pub write : Ref → Value → Store → Store
write (unresolved x) v s = with_heap s (put s.heap s.globals x v)
write (slot c x) v s = write_slot c x v s
write (own_arguments c) v s = with_slot c arguments_name v s
write (in_object o x) v s = put_member o x v s
write (named o x) v s = with_heap s (put s.heap o x v)
write (member (Obj o) k) v s = put_member o k v s
write r v s = s

-- 11.4.1: whether a reference may go: a name of a scope may not, and neither may the length of a text (15.5.5.1)
abbrev pub may_go : Ref → Store → Bool
may_go (slot c x) s = false
may_go (own_arguments c) s = false
may_go (in_object o x) s = can_delete s.heap o x
may_go (named o x) s = can_delete s.heap o x
may_go (member (Obj o) k) s = can_delete s.heap o k
may_go (member (Text us) k) s = not (same_units k length_key)
may_go r s = true

abbrev pub deleted : Ref → Store → Store
deleted (in_object o x) s = delete_member o x s
deleted (named o x) s = delete_member o x s
deleted (member (Obj o) k) s = delete_member o k s
deleted r s = s
