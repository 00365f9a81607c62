-- What the public properties of values are, by the kind of value.
use Rattle.std.specs.Prelude.{ℕ, ◌||◌, List, [], ◌∷◌, Option, Some, None, length, nat_lt, pos, codes, if◌then◌else◌}
use Rattle.std.specs.Borrow.{Bor}
use Rattle.caja_units.specs.Units.{same_units, is_hidden}
use Rattle.caja_units.specs.Index.{array_index, number_units}
use Rattle.es3_objects.specs.declared.value.Value.{Value}
use Rattle.es3_objects.specs.declared.value.Value.TheVariants as v
use Rattle.es3_objects.specs.declared.value.Class.{Class}
use Rattle.es3_objects.specs.declared.value.Class.TheVariants as class
use Rattle.es3_heap.specs.Objects.{Objects, object_at, class_of}
use Rattle.es3_heap.specs.Properties.{own, value_of, length_key, length_of}
use Rattle.rows.specs.Rows.{Native}
use Rattle.rows.specs.Names.{text_methods, array_methods, function_methods, node_methods}
use Rattle.heap_rows.specs.Doing.{text_in}
use Rattle.heap_rows.specs.Opening.{place_of}
use Rattle.guard_marks.specs.Functions.{is_for_modules}

-- the built-in function of a name, at its place
abbrev pub method_value : List (List ℕ × Native) → List ℕ → Value
method_value [] k = v.Undefined
method_value ((name, f) ∷ rest) k = if same_units k name then v.Obj (place_of f) else method_value rest k

-- the same of a table that has the places themselves
abbrev pub placed_value : List (Bor (List ℕ) × ℕ) → List ℕ → Value
placed_value [] k = v.Undefined
placed_value (m ∷ rest) k = if same_units k m.0.now then v.Obj m.1 else placed_value rest k

-- how many items an array has (15.4)
abbrev pub item_count : Objects → ℕ → ℕ
item_count h o = length_of (value_of (own h o length_key))

-- an item below the length, a hole being undefined; and else a method
abbrev pub item_or_method : Option ℕ → Objects → ℕ → List ℕ → Value
item_or_method None h o k = method_value array_methods k
item_or_method (Some i) h o k = if nat_lt i (item_count h o) then value_of (own h o (number_units i)) else method_value array_methods k

-- of an object, by its class
abbrev pub object_value : Class → Objects → ℕ → List ℕ → Value
object_value class.Object h o k = value_of (own h o k)
object_value class.Array h o k = if same_units k length_key then v.Num (pos (item_count h o)) else item_or_method (array_index k) h o k
object_value class.Function h o k = if is_for_modules h o then method_value function_methods k else v.Undefined
object_value class.Error h o k = if same_units k (codes "name") || same_units k (codes "message") then v.Text (text_in (value_of (own h o k))) else v.Undefined
object_value class.Node h o k = method_value node_methods k

abbrev pub public_value : Objects → Value → List ℕ → Value
public_value h (v.Text us) k = if same_units k length_key then v.Num (pos (length us)) else method_value text_methods k
public_value h (v.Obj o) k = object_value (class_of (object_at h o)) h o k
public_value h x k = v.Undefined

abbrev pub public_read : Objects → Value → List ℕ → Value
public_read h x k = if is_hidden k then v.Undefined else public_value h x k
