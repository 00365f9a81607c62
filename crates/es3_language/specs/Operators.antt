-- What operators give (ES3 11.4 to 11.10): a value, a fault that stops the run, or the message of an error that is thrown.
use Rattle.std.specs.Prelude.{ℕ, zero, suc, ℤ, pos, Bool, true, false, not, ◌||◌, List, Option, Some, None, is_some, nat_eq, Result, Ok, Err, length, codes, if◌then◌else◌}
use Rattle.plans.specs.Plans.{Fault}
use Rattle.caja_num.specs.Numbers as n
use Rattle.es3_tree.specs.declared.UnOp.{UnOp}
use Rattle.es3_tree.specs.declared.UnOp.TheVariants as un
use Rattle.es3_tree.specs.declared.BinOp.{BinOp}
use Rattle.es3_tree.specs.declared.BinOp.TheVariants as bin
use Rattle.es3_objects.specs.declared.value.Value.{Value}
use Rattle.es3_objects.specs.declared.value.Value.TheVariants.{Undefined, Null, Bool as Truth, Num, Text, Obj}
use Rattle.es3_heap.specs.Objects.{Objects, object_at, callable_of, proto_of}
use Rattle.es3_heap.specs.Properties.{get, lookup}
use Rattle.es3_convert.specs.Conversions.{and_then, text_of, number_or_fault, sum_of}
use Rattle.es3_convert.specs.Numbers.{number_of}
use Rattle.es3_convert.specs.Comparisons.{truth_of, strictly_equal, loosely_equal, less_of}

pub data Given : Type 0 where
  gives : Value → Given
  faults : Fault → Given
  raises : List ℕ → Given

abbrev pub given : Result Value Fault → Given
given (Ok v) = gives v
given (Err f) = faults f

abbrev pub given_truth : Result Bool Fault → Given
given_truth (Ok b) = gives (Truth b)
given_truth (Err f) = faults f

abbrev pub given_not : Result Bool Fault → Given
given_not (Ok b) = gives (Truth (not b))
given_not (Err f) = faults f

-- 11.5 to 11.10: both sides as numbers, the left one first
abbrev pub on_numbers : Objects → Value → Value → (ℤ → ℤ → Option ℤ) → Given
on_numbers h x y f = given (and_then (number_of h x) (λ a. and_then (number_of h y) (λ b. number_or_fault (f a b))))

-- 15.3.5.3: whether an object stands in a chain of prototypes, which is no longer than the objects are many
abbrev pub is_in_chain : ℕ → Objects → Option ℕ → ℕ → Bool
is_in_chain n h None p = false
is_in_chain zero h (Some o) p = false
is_in_chain (suc n) h (Some o) p = nat_eq o p || is_in_chain n h (proto_of (object_at h o)) p

abbrev pub has_prototype : Objects → Value → Value → Given
has_prototype h (Obj o) (Obj p) = gives (Truth (is_in_chain (length h.list) h (proto_of (object_at h o)) p))
has_prototype h (Obj o) v = raises (codes "no object")
has_prototype h x v = gives (Truth false)

-- 11.8.6: `x instanceof y`
abbrev pub instance_of : Objects → Value → Value → Given
instance_of h x (Obj f) =
    if is_some (callable_of (object_at h f)) then has_prototype h x (get h f (codes "prototype")) else raises (codes "not a function")
instance_of h x y = raises (codes "not a function")

abbrev pub has_key : Objects → ℕ → Result (List ℕ) Fault → Given
has_key h o (Ok k) = gives (Truth (is_some (lookup h o k)))
has_key h o (Err f) = faults f

-- 11.8.7: `x in y`
abbrev pub in_object_of : Objects → Value → Value → Given
in_object_of h x (Obj o) = has_key h o (text_of h x)
in_object_of h x y = raises (codes "no object")

-- 11.5 to 11.10: what `x op y` gives
abbrev pub operate : BinOp → Objects → Value → Value → Given
operate bin.Mul h x y = on_numbers h x y n.product
operate bin.Div h x y = on_numbers h x y n.quotient
operate bin.Rem h x y = on_numbers h x y n.remainder
operate bin.Add h x y = given (sum_of h x y)
operate bin.Sub h x y = on_numbers h x y n.difference
operate bin.Shl h x y = on_numbers h x y (λ a b. Some (n.shift_left a b))
operate bin.Shr h x y = on_numbers h x y (λ a b. Some (n.shift_right a b))
operate bin.Ushr h x y = on_numbers h x y (λ a b. Some (n.shift_right_unsigned a b))
operate bin.Less h x y = given_truth (less_of h x y)
operate bin.Greater h x y = given_truth (less_of h y x)
operate bin.LessEq h x y = given_not (less_of h y x)
operate bin.GreaterEq h x y = given_not (less_of h x y)
operate bin.InstanceOf h x y = instance_of h x y
operate bin.InObject h x y = in_object_of h x y
operate bin.Equal h x y = given_truth (loosely_equal h x y)
operate bin.NotEqual h x y = given_not (loosely_equal h x y)
operate bin.Same h x y = gives (Truth (strictly_equal x y))
operate bin.NotSame h x y = gives (Truth (not (strictly_equal x y)))
operate bin.BitAnd h x y = on_numbers h x y (λ a b. Some (n.bit_and_of a b))
operate bin.BitXor h x y = on_numbers h x y (λ a b. Some (n.bit_xor_of a b))
operate bin.BitOr h x y = on_numbers h x y (λ a b. Some (n.bit_or_of a b))

abbrev pub on_number : Objects → Value → (ℤ → ℤ) → Given
on_number h x f = given (and_then (number_of h x) (λ a. Ok (Num (f a))))

-- 11.4.3: the name of the type of a value
abbrev pub type_name : Objects → Value → List ℕ
type_name h Undefined = codes "undefined"
type_name h Null = codes "object"
type_name h (Truth b) = codes "boolean"
type_name h (Num a) = codes "number"
type_name h (Text us) = codes "string"
type_name h (Obj o) = if is_some (callable_of (object_at h o)) then codes "function" else codes "object"

-- 11.4: what `op x` gives for a value; `delete` and `typeof` take a reference, and of a value they tell this
abbrev pub convert : UnOp → Objects → Value → Given
convert un.Delete h x = gives (Truth true)
convert un.Void h x = gives Undefined
convert un.Typeof h x = gives (Text (type_name h x))
convert un.Plus h x = on_number h x (λ a. a)
convert un.Minus h x = on_number h x n.negated
convert un.BitNot h x = on_number h x n.bit_not_of
convert un.Not h x = gives (Truth (not (truth_of x)))

-- 11.3, 11.4.4, 11.4.5: one more, or one less
abbrev pub stepped : Bool → ℤ → Option ℤ
stepped up a = if up then n.sum a (pos 1) else n.difference a (pos 1)
