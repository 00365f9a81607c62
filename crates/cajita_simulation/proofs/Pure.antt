-- Rows that look, convert and compare, and then answer or stop; and that the rows of operators are of these.
use Rattle.std.proofs.Common.{ℕ, Bool, true, false, List, Option, Some, None, cond}
use Rattle.std.specs.Prelude.{ℤ, pos, ◌||◌, ◌&&◌, int_lt}
use Rattle.caja_num.specs.Numbers.{sum}
use Rattle.es3_tree.specs.declared.BinOp.{BinOp}
use Rattle.es3_tree.specs.declared.BinOp.TheVariants as bin
use Rattle.es3_tree.specs.declared.UnOp.{UnOp}
use Rattle.es3_tree.specs.declared.UnOp.TheVariants as un
use Rattle.rows.specs.Rows as r
use Rattle.rows.specs.Rows.{Handle, Sight, Ending, Row}
use Rattle.rows.specs.Guards.{is_textual, number_end, sum_row}
use Rattle.rows.specs.Operators as operators
use Rattle.rows.specs.Operators.{binary_row, unary_row, next_number, is_object, is_nothing}
use Rattle.row_simulation.specs.OperatorLaw.{IsOfValues}
use Rattle.cajita_simulation.specs.Alike.{GuestFault}
use Rattle.cajita_simulation.proofs.Rows.{EndsPlainly, IsPlain, NoTouches}

abbrev pub EndsPurely : Ending → Type 0
EndsPurely (r.answers x) = Unit {0}
EndsPurely (r.faults f) = GuestFault f
EndsPurely e = ⊥

abbrev pub IsPure : Row → Type 0
IsPure (r.ends e) = EndsPurely e
IsPure (r.as_text x go) = (us : List ℕ) → IsPure (go us)
IsPure (r.as_number x go) = (n : ℤ) → IsPure (go n)
IsPure (r.as_same x y go) = (b : Bool) → IsPure (go b)
IsPure (r.looks x go) = (s : Sight) → IsPure (go s)
IsPure q = ⊥

plain_end : (e : Ending) → EndsPurely e → EndsPlainly e
plain_end (r.answers x) p = tt
plain_end (r.faults f) p = p
plain_end _ p = absurd p

pub pure_plain : (q : Row) → IsPure q → IsPlain q
pure_plain (r.ends e) p = plain_end e p
pure_plain (r.as_text x go) p = λ us. pure_plain (go us) (p us)
pure_plain (r.as_number x go) p = λ n. pure_plain (go n) (p n)
pure_plain (r.as_same x y go) p = λ b. pure_plain (go b) (p b)
pure_plain (r.looks x go) p = λ s. pure_plain (go s) (p s)
pure_plain _ p = absurd p

pub pure_touches : (q : Row) → IsPure q → NoTouches q
pure_touches (r.ends e) p = tt
pure_touches (r.as_text x go) p = λ us. pure_touches (go us) (p us)
pure_touches (r.as_number x go) p = λ n. pure_touches (go n) (p n)
pure_touches (r.as_same x y go) p = λ b. pure_touches (go b) (p b)
pure_touches (r.looks x go) p = λ s. pure_touches (go s) (p s)
pure_touches _ p = absurd p

pure_if : (b : Bool) (x y : Row) → IsPure x → IsPure y → IsPure (cond b x y)
pure_if true x y p q = p
pure_if false x y p q = q

-- numbers

number_pure : (n : Option ℤ) → EndsPurely (number_end n)
number_pure None = tt
number_pure (Some n) = tt

sum_pure : (b : Bool) → IsPure (sum_row b)
sum_pure true = λ a b. tt
sum_pure false = λ a b. number_pure (sum a b)

numbers_pure : (f : ℤ → ℤ → Option ℤ) → IsPure (operators.on_numbers f)
numbers_pure f = λ a b. number_pure (f a b)

-- comparisons

abbrev AllPure : (Bool → Row) → Type 0
AllPure go = (b : Bool) → IsPure (go b)

primitive_pure : (x : Handle) (go : Handle → Sight → Row) → ((y : Handle) (s : Sight) → IsPure (go y s)) → IsPure (operators.as_primitive x go)
primitive_pure x go p = λ s. pure_if (is_object s) (r.as_text x (λ us. go (r.text us) (r.a_text us))) (go x s) (λ us. p (r.text us) (r.a_text us)) (p x s)

less_pure : (x : Handle) (s : Sight) (y : Handle) (t : Sight) (go : Bool → Row) → AllPure go → IsPure (operators.less_primitives x s y t go)
less_pure x (r.a_text us) y (r.a_text vs) go p = p _
less_pure x s y t go p = λ a b. p (int_lt a b)

is_less_pure : (x y : Handle) (go : Bool → Row) → AllPure go → IsPure (operators.is_less x y go)
is_less_pure x y go p = primitive_pure x (λ a s. operators.as_primitive y (λ b t. operators.less_primitives a s b t go)) (λ a s. primitive_pure y (λ b t. operators.less_primitives a s b t go) (λ b t. less_pure a s b t go p))

counted_pure : (x : Handle) (s : Sight) (go : Handle → Sight → Row) → ((y : Handle) (t : Sight) → IsPure (go y t)) → IsPure (operators.counted x s go)
counted_pure x (r.a_truth b) go p = pure_if b (go (r.number (pos 1)) (r.a_number (pos 1))) (go (r.number (pos 0)) (r.a_number (pos 0))) (p (r.number (pos 1)) (r.a_number (pos 1))) (p (r.number (pos 0)) (r.a_number (pos 0)))
counted_pure x s go p = p x s

equal_pure : (x : Handle) (s : Sight) (y : Handle) (t : Sight) (go : Bool → Row) → AllPure go → IsPure (operators.equal_primitives x s y t go)
equal_pure x (r.a_number a) y (r.a_text us) go p = λ b. p _
equal_pure x (r.a_text us) y (r.a_number b) go p = λ a. p _
equal_pure x s y t go p = p

equal_seen_pure : (x : Handle) (s : Sight) (y : Handle) (t : Sight) (go : Bool → Row) → AllPure go → IsPure (operators.equal_seen x s y t go)
equal_seen_pure x s y t go p =
    pure_if (is_nothing s || is_nothing t) _ _ (p (is_nothing s && is_nothing t))
    (pure_if (is_object s && is_object t) _ _ p
    (pure_if (is_object s) _ _ (λ us. equal_pure (r.text us) (r.a_text us) y t go p)
    (pure_if (is_object t) _ _ (λ us. equal_pure x s (r.text us) (r.a_text us) go p) (equal_pure x s y t go p))))

is_equal_pure : (x y : Handle) (go : Bool → Row) → AllPure go → IsPure (operators.is_equal x y go)
is_equal_pure x y go p = λ s. counted_pure x s (λ a u. r.looks y (λ t. operators.counted y t (λ b v. operators.equal_seen a u b v go))) (λ a u t. counted_pure y t (λ b v. operators.equal_seen a u b v go) (λ b v. equal_seen_pure a u b v go p))

-- all operators but `instanceof` and `in`, which throw
pub binary_pure : (op : BinOp) → IsOfValues op → IsPure (binary_row op)
binary_pure bin.Mul p = numbers_pure _
binary_pure bin.Div p = numbers_pure _
binary_pure bin.Rem p = numbers_pure _
binary_pure bin.Add p = λ a b. sum_pure (is_textual a || is_textual b)
binary_pure bin.Sub p = numbers_pure _
binary_pure bin.Shl p = λ a b. tt
binary_pure bin.Shr p = λ a b. tt
binary_pure bin.Ushr p = λ a b. tt
binary_pure bin.Less p = is_less_pure _ _ operators.tells (λ b. tt)
binary_pure bin.Greater p = is_less_pure _ _ operators.tells (λ b. tt)
binary_pure bin.LessEq p = is_less_pure _ _ operators.tells_not (λ b. tt)
binary_pure bin.GreaterEq p = is_less_pure _ _ operators.tells_not (λ b. tt)
binary_pure bin.InstanceOf p = absurd p
binary_pure bin.InObject p = absurd p
binary_pure bin.Equal p = is_equal_pure _ _ operators.tells (λ b. tt)
binary_pure bin.NotEqual p = is_equal_pure _ _ operators.tells_not (λ b. tt)
binary_pure bin.Same p = λ b. tt
binary_pure bin.NotSame p = λ b. tt
binary_pure bin.BitAnd p = λ a b. tt
binary_pure bin.BitXor p = λ a b. tt
binary_pure bin.BitOr p = λ a b. tt

pub unary_pure : (op : UnOp) → IsPure (unary_row op)
unary_pure un.Delete = tt
unary_pure un.Void = tt
unary_pure un.Typeof = λ s. tt
unary_pure un.Plus = λ n. tt
unary_pure un.Minus = λ n. tt
unary_pure un.BitNot = λ n. tt
unary_pure un.Not = λ s. tt

pub next_pure : (up : Bool) → IsPure (next_number up)
next_pure up = λ n. number_pure _
