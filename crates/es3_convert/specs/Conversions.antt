-- Conversions of values (ES3 9) and the operator that rests on them alone, `+` (11.6.1). A conversion runs no code of a text.
pub use Rattle.es3_heap.specs.Items.{items_from, array_items}
use Rattle.std.specs.Prelude.{ℕ, zero, suc, ℤ, pos, Bool, false, ◌&&◌, List, [], ◌∷◌, ◌++◌, Option, Some, None, option_map, nat_eq, Result, Ok, Err, codes, if◌then◌else◌}
use Rattle.plans.specs.Plans.{Fault, number_fault, depth_fault, convert_fault}
use Rattle.caja_num.specs.Numbers.{sum}
use Rattle.caja_units.specs.Number.{number_text}
use Rattle.es3_objects.specs.declared.value.Value.{Value}
use Rattle.es3_objects.specs.declared.value.Value.TheVariants as v
use Rattle.es3_objects.specs.declared.value.Class.{Class}
use Rattle.es3_objects.specs.declared.value.Class.TheVariants as class
use Rattle.es3_objects.specs.declared.value.FuncKind.{FuncKind}
use Rattle.es3_objects.specs.declared.value.FuncKind.TheVariants as kind
use Rattle.es3_heap.specs.Objects.{Objects, object_at, class_of, callable_of}
use Rattle.es3_heap.specs.Properties.{get}

-- a conversion, and then another
abbrev pub and_then : {A B : Type 0} → Result A Fault → (A → Result B Fault) → Result B Fault
and_then (Ok x) go = go x
and_then (Err f) go = Err f

-- 9.8: the text of a value that is no object
abbrev pub primitive_text : Value → List ℕ
primitive_text v.Undefined = codes "undefined"
primitive_text v.Null = codes "null"
primitive_text (v.Bool b) = if b then codes "true" else codes "false"
primitive_text (v.Num n) = number_text n
primitive_text (v.Text us) = us
primitive_text (v.Obj o) = []

-- the numbers of the built-in `toString` and `valueOf` (15.2.4.2, 15.2.4.4)
abbrev pub to_string : ℕ
to_string = 62

abbrev pub value_of_object : ℕ
value_of_object = 63

-- whether a value is the built-in function of a number
abbrev pub is_numbered : ℕ → Option FuncKind → Bool
is_numbered n (Some (kind.Simple m)) = nat_eq m n
is_numbered n k = false

abbrev pub is_built_in : ℕ → Objects → Value → Bool
is_built_in n h (v.Obj o) = is_numbered n (option_map (λ c. c.kind) (callable_of (object_at h o)))
is_built_in n h x = false

-- 8.6.2.6: no text's code runs in a conversion where an object's `toString` and its `valueOf`, as [[Get]] gives them, are the built-in ones
abbrev pub converts : Objects → ℕ → Bool
converts h o = is_built_in to_string h (get h o (codes "toString")) && is_built_in value_of_object h (get h o (codes "valueOf"))

-- what an item gives to the text of its array: nothing for undefined and null
abbrev pub item_text : (Value → Result (List ℕ) Fault) → Value → Result (List ℕ) Fault
item_text text v.Undefined = Ok []
item_text text v.Null = Ok []
item_text text x = text x

-- 15.4.4.5: the items with a separator before each, and between each two
abbrev pub tail_text : (Value → Result (List ℕ) Fault) → List ℕ → List Value → Result (List ℕ) Fault
tail_text text sep [] = Ok []
tail_text text sep (x ∷ xs) = and_then (item_text text x) (λ us. and_then (tail_text text sep xs) (λ ws. Ok (sep ++ (us ++ ws))))

abbrev pub joined : (Value → Result (List ℕ) Fault) → List ℕ → List Value → Result (List ℕ) Fault
joined text sep [] = Ok []
joined text sep (x ∷ xs) = and_then (item_text text x) (λ us. and_then (tail_text text sep xs) (λ ws. Ok (us ++ ws)))

-- the text of an object whose conversions are the built-in ones, by its class (15.2.4.2, 15.3.4.2, 15.4.4.2)
abbrev pub class_text : Result (List ℕ) Fault → Class → Result (List ℕ) Fault
class_text array class.Array = array
class_text array class.Function = Ok (codes "[object Function]")
class_text array c = Ok (codes "[object Object]")

-- 9.8: ToString, where n arrays may still be nested in one another
unfoldable pub text_within : ℕ → Objects → Value → Result (List ℕ) Fault
text_within zero h (v.Obj o) = if converts h o then class_text (Err depth_fault) (class_of (object_at h o)) else Err convert_fault
text_within (suc n) h (v.Obj o) = if converts h o then class_text (joined (text_within n h) (codes ",") (array_items h o)) (class_of (object_at h o)) else Err convert_fault
text_within n h x = Ok (primitive_text x)

-- at most 32 arrays in one another
abbrev pub text_of : Objects → Value → Result (List ℕ) Fault
text_of h x = text_within 32 h x

-- 9.1, 8.6.2.6: ToPrimitive; the built-in `valueOf` gives the object again, so the text counts
abbrev pub primitive_of : Objects → Value → Result Value Fault
primitive_of h (v.Obj o) = and_then (text_of h (v.Obj o)) (λ us. Ok (v.Text us))
primitive_of h x = Ok x

-- 9.3: ToNumber of a primitive that is no text: undefined is not a number
abbrev pub plain_number : Value → Option ℤ
plain_number v.Null = Some (pos 0)
plain_number (v.Bool b) = if b then Some (pos 1) else Some (pos 0)
plain_number (v.Num n) = Some n
plain_number x = None

abbrev pub number_or_fault : Option ℤ → Result Value Fault
number_or_fault None = Err number_fault
number_or_fault (Some n) = Ok (v.Num n)

abbrev pub sum_of_numbers : Option ℤ → Option ℤ → Option ℤ
sum_of_numbers (Some a) (Some b) = sum a b
sum_of_numbers a b = None

-- 11.6.1 from its step 7 on: texts are joined where one of the two is a text, and numbers are added elsewhere
abbrev pub sum_of_primitives : Value → Value → Result Value Fault
sum_of_primitives (v.Text a) y = Ok (v.Text (a ++ primitive_text y))
sum_of_primitives x (v.Text b) = Ok (v.Text (primitive_text x ++ b))
sum_of_primitives x y = number_or_fault (sum_of_numbers (plain_number x) (plain_number y))

-- 11.6.1: the value of x + y
abbrev pub sum_of : Objects → Value → Value → Result Value Fault
sum_of h x y = and_then (primitive_of h x) (λ p. and_then (primitive_of h y) (λ q. sum_of_primitives p q))
