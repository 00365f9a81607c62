-- The arguments object (ES3 10.1.8): it is made when its name is first read, which nobody can tell from its being made at the call.
-- An item whose argument belongs to a parameter has the value of that parameter, whichever of the two is written, until the item is deleted.
-- Where two parameters have one name, the name has the value of the last (10.1.3): only the item of that one has its value, and the others keep their own arguments.
use Rattle.std.specs.Prelude.{ℕ, ◌+◌, Bool, true, false, List, [], ◌∷◌, ◌++◌, Option, Some, None, is_some, length, slice_get, pos, codes, nat_eq, if◌then◌else◌}
use Rattle.std.specs.List.{list_any}
use Rattle.caja_units.specs.Units.{same_units}
use Rattle.caja_units.specs.Index.{number_units}
use Rattle.es3_objects.specs.declared.value.Value.{Value}
use Rattle.es3_objects.specs.declared.value.Value.TheVariants.{Num, Obj}
use Rattle.es3_objects.specs.declared.value.Class.TheVariants as class
use Rattle.es3_objects.specs.declared.value.Proto.TheVariants as proto
use Rattle.es3_heap.specs.Objects.{Objects, hidden_attrs}
use Rattle.es3_heap.specs.Properties.{own, put, define, delete, can_delete, length_key}
use Rattle.es3_heap.specs.Making.{proto_id, made}
use Rattle.es3_language.specs.Store.{Names, Owner, activation, own_name, Scope, Shared, Store, name_value, scope_at, with_heap, with_slot}

abbrev pub arguments_name : List ℕ
arguments_name = codes "arguments"

abbrev pub is_arguments : List ℕ → Bool
is_arguments x = same_units x arguments_name

-- making it

abbrev pub value_or : Value → Option Value → Value
value_or v None = v
value_or v (Some w) = w

-- 10.1.3: whether the name of a parameter is that of one behind it too
abbrev pub comes_again : List ℕ → List (List ℕ) → Bool
comes_again x xs = list_any (same_units x) xs

-- the items from an index on: the value that a parameter has by now; its argument, where the name comes again and behind the parameters
abbrev pub with_items : ℕ → ℕ → List (List ℕ) → List Value → Names → Objects → Objects
with_items o i xs [] names h = h
with_items o i [] (v ∷ vs) names h = with_items o (i + 1) [] vs names (define h o (number_units i) v hidden_attrs)
with_items o i (x ∷ xs) (v ∷ vs) names h = with_items o (i + 1) xs vs names (define h o (number_units i) (if comes_again x xs then v else value_or v (name_value x names)) hidden_attrs)

abbrev pub with_arguments_object : Value → List (List ℕ) → List Value → Names → Objects → Objects
with_arguments_object f xs vs names h =
    let o = length h.list in
    let n = define (made class.Object (Some (proto_id proto.Object)) h) o (codes "callee") f hidden_attrs in
    with_items o 0 xs vs names (define n o length_key (Num (pos (length vs))) hidden_attrs)

-- the items from an index on that have the values of parameters
abbrev pub shared_items : ℕ → List (List ℕ) → List Value → List (List ℕ × List ℕ)
shared_items i [] vs = []
shared_items i (x ∷ xs) [] = []
shared_items i (x ∷ xs) (v ∷ vs) = if comes_again x xs then shared_items (i + 1) xs vs else (number_units i, x) ∷ shared_items (i + 1) xs vs

abbrev pub made_for : Owner → ℕ → Names → Store → Store
made_for (activation f xs vs) c names s =
    with_slot c arguments_name (Obj (length s.heap.list)) (record s {
      heap = with_arguments_object f xs vs names s.heap;
      shared = s.shared ++ record { object = length s.heap.list; scope = c; items = shared_items 0 xs vs } ∷ [];
    })
made_for w c names s = s

abbrev pub made_at : Option Scope → ℕ → Store → Store
made_at None c s = s
made_at (Some scope) c s = made_for scope.owner c scope.names s

-- the store with the arguments object of an activation, which is the next object, unless the name is bound by now
abbrev pub with_arguments : ℕ → Store → Store
with_arguments c s = if is_some (name_value arguments_name (scope_at (slice_get s.scopes c))) then s else made_at (slice_get s.scopes c) c s

-- writing

-- a value for an item that is still there
abbrev pub put_item : ℕ → List ℕ → Value → Objects → Objects
put_item o k v h = if is_some (own h o k) then put h o k v else h

-- a value for the items of a parameter
abbrev pub put_items : ℕ → List (List ℕ × List ℕ) → List ℕ → Value → Objects → Objects
put_items o [] x v h = h
put_items o ((k, y) ∷ rest) x v h = put_items o rest x v (if same_units x y then put_item o k v h else h)

-- a name of a scope is written: so are the items that have its value
abbrev pub put_shared : List Shared → ℕ → List ℕ → Value → Objects → Objects
put_shared [] c x v h = h
put_shared (g ∷ gs) c x v h = if nat_eq g.scope c then put_items g.object g.items x v h else put_shared gs c x v h

-- 13: the own name of a function expression isn't written
abbrev pub is_own_name : Owner → Bool
is_own_name own_name = true
is_own_name w = false

abbrev pub is_fixed : Option Scope → Bool
is_fixed None = false
is_fixed (Some scope) = is_own_name scope.owner

-- a value for a name of a scope
abbrev pub write_slot : ℕ → List ℕ → Value → Store → Store
write_slot c x v s = if is_fixed (slice_get s.scopes c) then s else with_slot c x v (with_heap s (put_shared s.shared c x v s.heap))

-- the parameter whose value an item has
abbrev pub parameter_in : List (List ℕ × List ℕ) → List ℕ → Option (List ℕ)
parameter_in [] k = None
parameter_in ((j, x) ∷ rest) k = if same_units k j then Some x else parameter_in rest k

abbrev pub placed : ℕ → Option (List ℕ) → Option (ℕ × List ℕ)
placed c None = None
placed c (Some x) = Some (c, x)

abbrev pub parameter_of : List Shared → ℕ → List ℕ → Option (ℕ × List ℕ)
parameter_of [] o k = None
parameter_of (g ∷ gs) o k = if nat_eq g.object o then placed g.scope (parameter_in g.items k) else parameter_of gs o k

abbrev pub write_parameter : Option (ℕ × List ℕ) → Value → Store → Store
write_parameter None v s = s
write_parameter (Some (c, x)) v s = write_slot c x v s

-- a value for a member of an object
abbrev pub put_member : ℕ → List ℕ → Value → Store → Store
put_member o k v s = write_parameter (parameter_of s.shared o k) v (with_heap s (put s.heap o k v))

-- deleting

abbrev pub without_item : List ℕ → List (List ℕ × List ℕ) → List (List ℕ × List ℕ)
without_item k [] = []
without_item k ((j, x) ∷ rest) = if same_units k j then rest else (j, x) ∷ without_item k rest

-- an item that is deleted has the value of no parameter any more
abbrev pub unshared : ℕ → List ℕ → List Shared → List Shared
unshared o k [] = []
unshared o k (g ∷ gs) = (if nat_eq g.object o then record g { items = without_item k g.items } else g) ∷ unshared o k gs

abbrev pub delete_member : ℕ → List ℕ → Store → Store
delete_member o k s = record s { heap = delete s.heap o k; shared = if can_delete s.heap o k then unshared o k s.shared else s.shared }
