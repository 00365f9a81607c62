-- What a name or a member stands for is live, and so is what is read of it; writing and deleting keep a store live.
use Rattle.std.proofs.Common.{ℕ, List, [], ◌∷◌, Option, Some, None, IfSome, is_some, length, pos, slice_get}
use Rattle.caja_units.specs.Units.{same_units}
use Rattle.es3_objects.specs.declared.value.Value.{Value}
use Rattle.es3_objects.specs.declared.value.Value.TheVariants.{Undefined, Null, Bool as Truth, Num, Text, Obj}
use Rattle.es3_objects.specs.declared.value.Proto.TheVariants as proto
use Rattle.es3_heap.specs.Objects.{Objects}
use Rattle.es3_heap.specs.Properties.{get, put, lookup, length_key}
use Rattle.es3_heap.specs.Making.{proto_id}
use Rattle.es3_language.specs.Store.{Owner, activation, own_name, caught, with_object_of, Scope, Store, name_value, scope_at}
use Rattle.es3_language.specs.Arguments.{arguments_name, is_arguments}
use Rattle.es3_language.specs.References.{Ref, unresolved, slot, own_arguments, in_object, named, member, just, global_name, in_owner, in_with, resolve, arguments_of, arguments_at, resolve_arguments, reference, member_of, get_member, read, base_of, write, deleted}
use Rattle.es3_live.specs.Live.{IsLive, AreClosed}
use Rattle.es3_live.specs.Runs.{IsLiveOrNone, LiveOwner, LiveScope, LiveStore, LiveRef}
use Rattle.es3_kept.proofs.Next.{Next, same_store}
use Rattle.es3_kept.proofs.Parts.{either}
use Rattle.es3_kept.proofs.Names.{name_value_live}
use Rattle.es3_live.proofs.Reading.{get_live}
use Rattle.es3_live.proofs.Writing.{put_grown}
use Rattle.es3_kept.proofs.Stores.{count, with_heap_live, scope_live, names_live, with_slot_live}
use Rattle.es3_kept.proofs.Arguments.{write_slot_live, put_member_live, delete_member_live}

-- names

module _ (s : Store) (l : LiveStore s) where
  abbrev Live : Ref → Type 0
  Live r = LiveRef (count s) r

  global_live : (x : List ℕ) → Live (global_name s x)
  global_live x = either Live (is_some (lookup s.heap s.globals x)) (named s.globals x) (unresolved x) l.globals tt

  in_owner_live : (w : Owner) (x : List ℕ) (r : Ref) → LiveOwner (count s) w → Live r → Live (in_owner w s x r)
  in_owner_live (with_object_of o) x r a b = either Live (is_some (lookup s.heap o x)) (in_object o x) r a b
  in_owner_live w x r a b = b

  in_with_live : (w : Option Scope) (x : List ℕ) (r : Ref) → IfSome w (LiveScope (count s)) → Live r → Live (in_with w s x r)
  in_with_live None x r a b = b
  in_with_live (Some w) x r a b = in_owner_live w.owner x r a.owner b

  resolve_live : (chain : List ℕ) (x : List ℕ) → Live (resolve chain s x)
  resolve_live [] x = global_live x
  resolve_live (c ∷ chain) x =
      either Live (is_some (name_value x (scope_at (slice_get s.scopes c)))) (slot c x) (in_with (slice_get s.scopes c) s x (resolve chain s x)) tt
      (in_with_live (slice_get s.scopes c) x (resolve chain s x) (scope_live c s l) (resolve_live chain x))

  arguments_of_live : (w : Owner) (c : ℕ) (r : Ref) → LiveOwner (count s) w → Live r → Live (arguments_of w c s r)
  arguments_of_live (activation f xs vs) c r a b = tt
  arguments_of_live own_name c r a b = b
  arguments_of_live caught c r a b = b
  arguments_of_live (with_object_of o) c r a b = in_owner_live (with_object_of o) arguments_name r a b

  arguments_at_live : (w : Option Scope) (c : ℕ) (r : Ref) → IfSome w (LiveScope (count s)) → Live r → Live (arguments_at w c s r)
  arguments_at_live None c r a b = b
  arguments_at_live (Some w) c r a b = arguments_of_live w.owner c r a.owner b

  resolve_arguments_live : (chain : List ℕ) → Live (resolve_arguments chain s)
  resolve_arguments_live [] = global_live arguments_name
  resolve_arguments_live (c ∷ chain) =
      either Live (is_some (name_value arguments_name (scope_at (slice_get s.scopes c)))) (slot c arguments_name) (arguments_at (slice_get s.scopes c) c s (resolve_arguments chain s)) tt
      (arguments_at_live (slice_get s.scopes c) c (resolve_arguments chain s) (scope_live c s l) (resolve_arguments_live chain))

  pub reference_live : (chain : List ℕ) (x : List ℕ) → Live (reference chain s x)
  reference_live chain x = either Live (is_arguments x) (resolve_arguments chain s) (resolve chain s x) (resolve_arguments_live chain) (resolve_live chain x)

-- members

pub member_of_live : (n : ℕ) (v : Value) (k : List ℕ) → IsLive n v → IfSome (member_of v k) (LiveRef n)
member_of_live n Undefined k a = tt
member_of_live n Null k a = tt
member_of_live n v k a = a

get_member_live : (h : Objects) (v : Value) (k : List ℕ) → AreClosed h → IsLive (length h.list) (get_member h v k)
get_member_live h (Obj o) k c = get_live h o k c
get_member_live h (Text us) k c = either (IsLive (length h.list)) (same_units k length_key) (Num (pos (length us))) (get h (proto_id proto.String) k) tt (get_live h (proto_id proto.String) k c)
get_member_live h (Num n) k c = get_live h (proto_id proto.Number) k c
get_member_live h (Truth b) k c = get_live h (proto_id proto.Boolean) k c
get_member_live h v k c = tt

-- reading, writing, deleting

pub read_live : (r : Ref) (s : Store) → LiveStore s → LiveRef (count s) r → IsLiveOrNone (count s) (read r s)
read_live (unresolved x) s l a = tt
read_live (slot c x) s l a = name_value_live (count s) x (scope_at (slice_get s.scopes c)) (names_live c s l)
read_live (own_arguments c) s l a = tt
read_live (in_object o x) s l a = get_live s.heap o x l.heap
read_live (named o x) s l a = get_live s.heap o x l.heap
read_live (member v k) s l a = get_member_live s.heap v k l.heap
read_live (just v) s l a = a

pub base_of_live : (n : ℕ) (r : Ref) → LiveRef n r → IsLive n (base_of r)
base_of_live n (in_object o x) a = a
base_of_live n (member v k) a = a
base_of_live n r a = tt

put_live : (o : ℕ) (x : List ℕ) (v : Value) (s : Store) → LiveStore s → IsLive (count s) v → Next s.heap (record s { heap = put s.heap o x v })
put_live o x v s l a = with_heap_live s (put s.heap o x v) l (put_grown s.heap o x v l.heap a)

pub write_live : (r : Ref) (v : Value) (s : Store) → LiveStore s → IsLive (count s) v → Next s.heap (write r v s)
write_live (unresolved x) v s l a = put_live s.globals x v s l a
write_live (slot c x) v s l a = write_slot_live c x v s l a
write_live (own_arguments c) v s l a = with_slot_live c arguments_name v s l a
write_live (in_object o x) v s l a = put_member_live o x v s l a
write_live (named o x) v s l a = put_live o x v s l a
write_live (member (Obj o) k) v s l a = put_member_live o k v s l a
write_live r v s l a = same_store s l

pub deleted_live : (r : Ref) (s : Store) → LiveStore s → Next s.heap (deleted r s)
deleted_live (in_object o x) s l = delete_member_live o x s l
deleted_live (named o x) s l = delete_member_live o x s l
deleted_live (member (Obj o) k) s l = delete_member_live o k s l
deleted_live r s l = same_store s l
