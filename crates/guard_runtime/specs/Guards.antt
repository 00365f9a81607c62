-- The guards that a rewritten module calls: what each answers, and the objects that it leaves. Sections are those of ES3, ECMA-262 third edition.
use Rattle.std.specs.Prelude.{ℕ, suc, ◌+◌, ◌-◌, pos, Bool, true, false, List, [], ◌∷◌, Option, Some, None, Result, Ok, length, slice_get, nat_lt, codes, if◌then◌else◌}
use Rattle.plans.specs.Plans.{Fault}
use Rattle.es3_objects.specs.declared.value.Value.{Value}
use Rattle.es3_objects.specs.declared.value.Value.TheVariants as v
use Rattle.es3_objects.specs.declared.value.Class.{Class}
use Rattle.es3_objects.specs.declared.value.Class.TheVariants as class
use Rattle.es3_objects.specs.declared.value.Proto.TheVariants as proto
use Rattle.es3_heap.specs.Objects.{Objects, object_at, class_of}
use Rattle.es3_heap.specs.Properties.{own, value_of, length_key}
use Rattle.es3_heap.specs.Making.{proto_id, made, named}
use Rattle.es3_convert.specs.Conversions.{and_then, text_of, array_items}
use Rattle.es3_language.specs.Natives.{invoke_reply}
use Rattle.rows.specs.Rows.{most_items}
use Rattle.rows.specs.Guards as rows
use Rattle.heap_rows.specs.Marks.{marked, simple_mark, frozen_mark}
use Rattle.heap_rows.specs.Doing.{Done, gives}
use Rattle.row_outcomes.specs.Comes.{throws}
use Rattle.row_outcomes.specs.Arguments.{argument, told, after}
pub use Rattle.public_guards.specs.ByRow.{by_row}
pub use Rattle.freeze_marks.specs.Records.{with_pairs}
use Rattle.guard_runtime.specs.declared.Guard.{Guard}
use Rattle.guard_runtime.specs.declared.Guard.TheVariants as g
use Rattle.guard_runtime.specs.declared.TheConstants.{GUARDS}

-- the items of an array, of which a hole is undefined
abbrev pub list_in : Class → Objects → ℕ → Option (List Value)
list_in class.Array h o = Some (array_items h o)
list_in c h o = None

abbrev pub list_of : Objects → Value → Option (List Value)
list_of h (v.Obj o) = list_in (class_of (object_at h o)) h o
list_of h x = None

-- what takes a list throws where there is none
abbrev pub on_list : Option (List Value) → ℕ → Objects → (List Value → Done) → Done
on_list None by h go = throws (codes "bad argument") by h
on_list (Some xs) by h go = go xs

-- an object that is there gets the next name of the module, where it has none
abbrev pub gives_named : ℕ → ℕ → Objects → Done
gives_named by o h = gives (v.Obj o) (named h o by) []

-- loadModule(f): f is called with the object of the runtime and what the module may import
abbrev pub load_by : Class → ℕ → ℕ → ℕ → ℕ → Objects → Done
load_by class.Function runtime imports by o h = record { reply = invoke_reply false (v.Obj o) v.Undefined (v.Obj runtime ∷ v.Obj imports ∷ []); heap = h; items = [] }
load_by c runtime imports by o h = throws (codes "not a function") by h

abbrev pub load_module : ℕ → ℕ → ℕ → Value → Objects → Done
load_module runtime imports by (v.Obj o) h = load_by (class_of (object_at h o)) runtime imports by o h
load_module runtime imports by x h = throws (codes "not a function") by h

-- readImport(i, k): the own property of an object, undefined where it has none
abbrev pub read_import : ℕ → Value → Value → Objects → Done
read_import by (v.Obj o) k h = told (and_then (text_of h k) (λ us. Ok (value_of (own h o us)))) h
read_import by x k h = throws (codes "bad argument") by h

-- func(f): a function of a text is marked as one for modules, and named
abbrev pub func_of : Class → ℕ → ℕ → Objects → Done
func_of class.Function by o h = gives_named by o (marked (marked h o simple_mark) o frozen_mark)
func_of c by o h = throws (codes "not a function") by h

abbrev pub func : ℕ → Value → Objects → Done
func by (v.Obj o) h = func_of (class_of (object_at h o)) by o h
func by x h = throws (codes "not a function") by h

-- args(l): a new frozen array of the items of l, which is an array or has a length as one has (10.1.8)
abbrev pub is_length : Value → Bool
is_length (v.Num (pos n)) = nat_lt n most_items
is_length x = false

abbrev pub counted_items : Bool → Objects → ℕ → Option (List Value)
counted_items true h o = Some (array_items h o)
counted_items false h o = None

abbrev pub items_of : Objects → Value → Option (List Value)
items_of h (v.Obj o) = counted_items (is_length (value_of (own h o length_key))) h o
items_of h x = None

abbrev pub args : ℕ → Value → Objects → Done
args by l h = on_list (items_of h l) by h (λ xs. by_row (rows.args (length xs)) by xs h)

-- initializeArray(l): the array of a literal is named
abbrev pub initialize_array_of : Class → ℕ → ℕ → Objects → Done
initialize_array_of class.Array by o h = gives_named by o h
initialize_array_of c by o h = throws (codes "bad argument") by h

abbrev pub initialize_array : ℕ → Value → Objects → Done
initialize_array by (v.Obj o) h = initialize_array_of (class_of (object_at h o)) by o h
initialize_array by x h = throws (codes "bad argument") by h

-- initializeMap(l)

-- items as keys and values in turn, the keys converted from the left; a last key without a value has undefined
abbrev pub keyed : Objects → List Value → Result (List (List ℕ × Value)) Fault
keyed h [] = Ok []
keyed h (k ∷ []) = and_then (text_of h k) (λ us. Ok ((us, v.Undefined) ∷ []))
keyed h (k ∷ x ∷ rest) = and_then (text_of h k) (λ us. and_then (keyed h rest) (λ pairs. Ok ((us, x) ∷ pairs)))

-- a new record of them (11.1.5), made by the running module: it has that module's next name
abbrev pub new_record : ℕ → Objects → List (List ℕ × Value) → Done
new_record by h pairs = gives (v.Obj (length h.list)) (named (with_pairs pairs (length h.list) (made class.Object (Some (proto_id proto.Object)) h)) (length h.list) by) []

abbrev pub initialize_map : ℕ → Value → Objects → Done
initialize_map by l h = on_list (list_of h l) by h (λ xs. after (keyed h xs) h (new_record by h))

-- callPub(o, k, l): where l is no array, the key's text is made for the touch of an object, and then it throws
abbrev pub without_list : ℕ → Value → Value → Objects → Done
without_list by (v.Obj o) k h = after (text_of h k) h (λ us. throws (codes "bad argument") by h)
without_list by x k h = throws (codes "bad argument") by h

abbrev pub call_pub_on : Option (List Value) → ℕ → Value → Value → Objects → Done
call_pub_on None by o k h = without_list by o k h
call_pub_on (Some xs) by o k h = by_row (rows.call_pub (2 + length xs)) by (o ∷ k ∷ xs) h

abbrev pub call_pub : ℕ → Value → Value → Value → Objects → Done
call_pub by o k l h = call_pub_on (list_of h l) by o k h

-- construct(f, l)
abbrev pub construct : ℕ → Value → Value → Objects → Done
construct by f l h = on_list (list_of h l) by h (λ xs. by_row (rows.construct (suc (length xs))) by (f ∷ xs) h)

-- the guard of a number, by the running module, the arguments and the objects

abbrev pub done_of : Guard → ℕ → List Value → Objects → Done
done_of g.ReadImport by vs h = read_import by (argument 0 vs) (argument 1 vs) h
done_of g.Func by vs h = func by (argument 0 vs) h
done_of g.Args by vs h = args by (argument 0 vs) h
done_of g.InitializeArray by vs h = initialize_array by (argument 0 vs) h
done_of g.InitializeMap by vs h = initialize_map by (argument 0 vs) h
done_of g.Key by vs h = by_row rows.key by (argument 0 vs ∷ []) h
done_of g.ReadPub by vs h = by_row (rows.read_pub 2) by (argument 0 vs ∷ argument 1 vs ∷ []) h
done_of g.SetPub by vs h = by_row (rows.set_pub 3) by (argument 0 vs ∷ argument 1 vs ∷ argument 2 vs ∷ []) h
done_of g.DeletePub by vs h = by_row (rows.delete_pub 2) by (argument 0 vs ∷ argument 1 vs ∷ []) h
done_of g.InPub by vs h = by_row rows.in_pub by (argument 0 vs ∷ argument 1 vs ∷ []) h
done_of g.KeysPub by vs h = by_row rows.keys_pub by (argument 0 vs ∷ []) h
done_of g.CallPub by vs h = call_pub by (argument 0 vs) (argument 1 vs) (argument 2 vs) h
done_of g.AsSimpleFunc by vs h = by_row rows.as_simple_func by (argument 0 vs ∷ []) h
done_of g.Construct by vs h = construct by (argument 0 vs) (argument 1 vs) h
done_of g.InstanceOf by vs h = by_row rows.instance_of by (argument 0 vs ∷ argument 1 vs ∷ []) h

-- the guards' numbers follow that of `loadModule`, which is none of them
abbrev pub first_guard : ℕ
first_guard = 65

abbrev pub guard_at : ℕ → Option Guard
guard_at n = if nat_lt n first_guard then None else slice_get GUARDS (n - first_guard)
