-- What an operator gives is no object.
use Rattle.std.proofs.Common.{ℕ, ℤ, Bool, List, Option, Some, None, is_some, Result, Ok, Err, IfOk, codes}
use Rattle.plans.specs.Plans.{Fault}
use Rattle.caja_num.specs.Numbers as number
use Rattle.es3_tree.specs.declared.UnOp.{UnOp}
use Rattle.es3_tree.specs.declared.UnOp.TheVariants as un
use Rattle.es3_tree.specs.declared.BinOp.{BinOp}
use Rattle.es3_tree.specs.declared.BinOp.TheVariants as bin
use Rattle.es3_objects.specs.declared.value.Value.{Value}
use Rattle.es3_objects.specs.declared.value.Value.TheVariants.{Num, Text, Obj}
use Rattle.es3_heap.specs.Objects.{Objects, object_at, callable_of}
use Rattle.es3_heap.specs.Properties.{get}
use Rattle.es3_convert.specs.Conversions.{and_then, text_of, primitive_of, plain_number, number_or_fault, sum_of_numbers, sum_of_primitives, sum_of}
use Rattle.es3_convert.specs.Numbers.{number_of}
use Rattle.es3_convert.specs.Comparisons.{loosely_equal, less_of}
use Rattle.es3_language.specs.Operators.{Given, gives, faults, raises, given, given_truth, given_not, on_numbers, has_prototype, instance_of, has_key, in_object_of, operate, on_number, convert}
use Rattle.es3_live.specs.Live.{IsLive}
use Rattle.es3_kept.proofs.Parts.{either}

abbrev pub LiveGiven : ℕ → Given → Type 0
LiveGiven n (gives v) = IsLive n v
LiveGiven n (faults f) = Unit {0}
LiveGiven n (raises message) = Unit {0}

and_then_ok : {A B : Type 0} (P : B → Type 0) (r : Result A Fault) (go : A → Result B Fault) → ((x : A) → IfOk (go x) P) → IfOk (and_then r go) P
and_then_ok P (Ok x) go all = all x
and_then_ok P (Err f) go all = tt

module _ (n : ℕ) where
  given_live : (r : Result Value Fault) → IfOk r (IsLive n) → LiveGiven n (given r)
  given_live (Ok v) l = l
  given_live (Err f) l = tt

  truth_live : (r : Result Bool Fault) → LiveGiven n (given_truth r)
  truth_live (Ok b) = tt
  truth_live (Err f) = tt

  not_live : (r : Result Bool Fault) → LiveGiven n (given_not r)
  not_live (Ok b) = tt
  not_live (Err f) = tt

  number_ok : (m : Option ℤ) → IfOk (number_or_fault m) (IsLive n)
  number_ok None = tt
  number_ok (Some a) = tt

  numbers_live : (h : Objects) (x y : Value) (f : ℤ → ℤ → Option ℤ) → LiveGiven n (on_numbers h x y f)
  numbers_live h x y f =
      given_live (and_then (number_of h x) (λ a. and_then (number_of h y) (λ b. number_or_fault (f a b))))
      (and_then_ok (IsLive n) (number_of h x) (λ a. and_then (number_of h y) (λ b. number_or_fault (f a b))) (λ a. and_then_ok (IsLive n) (number_of h y) (λ b. number_or_fault (f a b)) (λ b. number_ok (f a b))))

  primitives_ok : (x y : Value) → IfOk (sum_of_primitives x y) (IsLive n)
  primitives_ok (Text a) y = tt
  primitives_ok x (Text b) = tt
  primitives_ok x y = number_ok (sum_of_numbers (plain_number x) (plain_number y))

  sum_live : (h : Objects) (x y : Value) → LiveGiven n (given (sum_of h x y))
  sum_live h x y =
      given_live (sum_of h x y)
      (and_then_ok (IsLive n) (primitive_of h x) (λ p. and_then (primitive_of h y) (λ q. sum_of_primitives p q)) (λ p. and_then_ok (IsLive n) (primitive_of h y) (λ q. sum_of_primitives p q) (λ q. primitives_ok p q)))

  prototype_live : (h : Objects) (x p : Value) → LiveGiven n (has_prototype h x p)
  prototype_live h (Obj o) (Obj p) = tt
  prototype_live h (Obj o) v = tt
  prototype_live h x v = tt

  instance_live : (h : Objects) (x y : Value) → LiveGiven n (instance_of h x y)
  instance_live h x (Obj f) =
      either (LiveGiven n) (is_some (callable_of (object_at h f))) (has_prototype h x (get h f (codes "prototype"))) (raises (codes "not a function")) (prototype_live h x (get h f (codes "prototype"))) tt
  instance_live h x y = tt

  key_live : (h : Objects) (o : ℕ) (k : Result (List ℕ) Fault) → LiveGiven n (has_key h o k)
  key_live h o (Ok k) = tt
  key_live h o (Err f) = tt

  in_live : (h : Objects) (x y : Value) → LiveGiven n (in_object_of h x y)
  in_live h x (Obj o) = key_live h o (text_of h x)
  in_live h x y = tt

  pub operate_live : (op : BinOp) (h : Objects) (x y : Value) → LiveGiven n (operate op h x y)
  operate_live bin.Mul h x y = numbers_live h x y number.product
  operate_live bin.Div h x y = numbers_live h x y number.quotient
  operate_live bin.Rem h x y = numbers_live h x y number.remainder
  operate_live bin.Add h x y = sum_live h x y
  operate_live bin.Sub h x y = numbers_live h x y number.difference
  operate_live bin.Shl h x y = numbers_live h x y (λ a b. Some (number.shift_left a b))
  operate_live bin.Shr h x y = numbers_live h x y (λ a b. Some (number.shift_right a b))
  operate_live bin.Ushr h x y = numbers_live h x y (λ a b. Some (number.shift_right_unsigned a b))
  operate_live bin.Less h x y = truth_live (less_of h x y)
  operate_live bin.Greater h x y = truth_live (less_of h y x)
  operate_live bin.LessEq h x y = not_live (less_of h y x)
  operate_live bin.GreaterEq h x y = not_live (less_of h x y)
  operate_live bin.InstanceOf h x y = instance_live h x y
  operate_live bin.InObject h x y = in_live h x y
  operate_live bin.Equal h x y = truth_live (loosely_equal h x y)
  operate_live bin.NotEqual h x y = not_live (loosely_equal h x y)
  operate_live bin.Same h x y = tt
  operate_live bin.NotSame h x y = tt
  operate_live bin.BitAnd h x y = numbers_live h x y (λ a b. Some (number.bit_and_of a b))
  operate_live bin.BitXor h x y = numbers_live h x y (λ a b. Some (number.bit_xor_of a b))
  operate_live bin.BitOr h x y = numbers_live h x y (λ a b. Some (number.bit_or_of a b))

  number_live : (h : Objects) (x : Value) (f : ℤ → ℤ) → LiveGiven n (on_number h x f)
  number_live h x f = given_live (and_then (number_of h x) (λ a. Ok (Num (f a)))) (and_then_ok (IsLive n) (number_of h x) (λ a. Ok (Num (f a))) (λ a. tt))

  pub convert_live : (op : UnOp) (h : Objects) (x : Value) → LiveGiven n (convert op h x)
  convert_live un.Delete h x = tt
  convert_live un.Void h x = tt
  convert_live un.Typeof h x = tt
  convert_live un.Plus h x = number_live h x (λ a. a)
  convert_live un.Minus h x = number_live h x number.negated
  convert_live un.BitNot h x = number_live h x number.bit_not_of
  convert_live un.Not h x = tt
