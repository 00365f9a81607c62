-- What the rows of `Math`, `Number` and `String` come to.
use Rattle.std.proofs.Common.{◌≡◌, ℕ, suc, List, [], ◌∷◌, ◌++◌, length, drop, get_or, ◌<◌, Result, Ok, Err, refl, sym, subst, drop-cons, arith}
use Rattle.std.specs.Prelude.{ℤ, pos, Bool, false, nat_eq, unsigned_abs}
use Rattle.std.proofs.lemmas.Bool.Decides.{nat_tests}
use Rattle.plans.specs.Plans.{Fault}
use Rattle.es3_objects.specs.declared.value.Stop.{Stop}
use Rattle.es3_objects.specs.declared.value.Value.{Value}
use Rattle.es3_objects.specs.declared.value.Value.TheVariants as v
use Rattle.es3_heap.specs.Objects.{Objects}
use Rattle.es3_convert.specs.Answers.{Answers}
use Rattle.es3_convert.specs.Conversions.{and_then, text_of}
use Rattle.es3_convert.specs.Numbers.{number_of}
use Rattle.es3_convert.proofs.Faults.{and_then-fault}
use Rattle.rows.specs.Rows as r
use Rattle.rows.specs.Rows.{Native, Row}
use Rattle.rows.specs.Arguments as rows
use Rattle.rows.specs.Core as core
use Rattle.rows.specs.Core.{best_end, chosen}
use Rattle.rows.specs.Nodes.{no_rules}
use Rattle.rows.specs.Table.{row_of}
use Rattle.heap_rows.specs.Doing.{Done, does}
use Rattle.heap_rows.specs.Opening.{place_of, empty_page}
use Rattle.row_outcomes.specs.declared.Outcome.{Outcome}
use Rattle.row_outcomes.specs.Comes.{Comes, row_done}
use Rattle.row_outcomes.specs.Arguments.{argument, told, outcome_of}
use Rattle.row_outcomes.specs.Numbers.{numbers_of}
use Rattle.row_outcomes.proofs.Arguments.{now, Yields, as_number_yields, as_text_yields}
use Rattle.row_outcomes.proofs.Numbers.{as_numbers_yields}
use Rattle.row_outcomes.proofs.Told.{told_comes}
use Rattle.builtin_core.specs.declared.math.Best.{Best}
use Rattle.builtin_core.specs.declared.math.Best.TheVariants.{Greatest, Least}
use Rattle.builtin_core.specs.Numbers.{abs, its_number, better, best, best_from, best_of, number_from, text_from}

-- a row that comes to something whatever stands behind the arguments
pub done_by : (f : Native) (by : ℕ) (this : Value) (args : List Value) (h : Objects) (d : Done) → Yields by this args h (row_of no_rules f (suc (length args))) d → row_done f by this args h ≡ d
done_by f by this args h d yields = now by (this ∷ args) h (row_of no_rules f (suc (length args))) d yields

pub abs-is : (by : ℕ) (this : Value) (args : List Value) (h : Objects) → row_done r.abs by this args h ≡ told (abs args h) h
abs-is by this args h =
    done_by r.abs by this args h (told (abs args h) h) (as_number_yields by this args h 0 (λ n. r.ends (r.answers (r.number (pos (unsigned_abs n))))) (λ n. Ok (v.Num (pos (unsigned_abs n)))) (λ n more. refl))

number_yields : (by : ℕ) (this : Value) (args : List Value) (h : Objects) (row : Row) → row ≡ core.its_number (rows.argument 0 (suc (length args))) → Yields by this args h row (told (its_number args h) h)
number_yields by this args h row is = rw is (as_number_yields by this args h 0 (λ n. r.ends (r.answers (r.number n))) (λ n. Ok (v.Num n)) (λ n more. refl))

pub its_number-is : (by : ℕ) (this : Value) (args : List Value) (h : Objects) → row_done r.floor by this args h ≡ told (its_number args h) h
its_number-is by this args h =
    done_by r.floor by this args h (told (its_number args h) h) (number_yields by this args h (core.its_number (rows.argument 0 (suc (length args)))) refl)

best_told : (better : ℤ → ℤ → Bool) (by : ℕ) (vs : List Value) (h : Objects) (ns : List ℤ) → (does place_of by (r.ends (best_end better ns)) vs h empty_page []).done ≡ told (best better ns) h
best_told better by vs h [] = refl
best_told better by vs h (n ∷ ns) = refl

best_yields : (better : ℤ → ℤ → Bool) (by : ℕ) (this : Value) (args : List Value) (h : Objects) → Yields by this args h (core.best better (suc (length args))) (told (best_of better args h) h)
best_yields better by this args h =
    as_numbers_yields by this args h (λ ns. r.ends (best_end better ns)) (best better) (λ ns more. best_told better by (this ∷ (args ++ more)) h ns)

pub max-is : (by : ℕ) (this : Value) (args : List Value) (h : Objects) → row_done r.max by this args h ≡ told (best_of (better Greatest) args h) h
max-is by this args h = done_by r.max by this args h (told (best_of (better Greatest) args h) h) (best_yields (better Greatest) by this args h)

pub min-is : (by : ℕ) (this : Value) (args : List Value) (h : Objects) → row_done r.min by this args h ≡ told (best_of (better Least) args h) h
min-is by this args h = done_by r.min by this args h (told (best_of (better Least) args h) h) (best_yields (better Least) by this args h)

-- with an argument there are more values than one
more_than_one : (n : ℕ) → nat_eq (suc (suc n)) 1 ≡ false
more_than_one n = grind (arith, nat_tests)

pub number_from-is : (by : ℕ) (this : Value) (args : List Value) (h : Objects) → row_done r.number_from by this args h ≡ told (number_from args h) h
number_from-is by this [] h = refl
number_from-is by this (x ∷ xs) h =
    done_by r.number_from by this (x ∷ xs) h (told (its_number (x ∷ xs) h) h) (number_yields by this (x ∷ xs) h (core.number_from (suc (suc (length xs)))) (rw (more_than_one (length xs)) refl))

text_yields : (by : ℕ) (this : Value) (args : List Value) (h : Objects) (row : Row) → row ≡ r.as_text (rows.argument 0 (suc (length args))) (λ us. r.ends (r.answers (r.text us)))
    → Yields by this args h row (told (and_then (text_of h (argument 0 args)) (λ us. Ok (v.Text us))) h)
text_yields by this args h row is = rw is (as_text_yields by this args h 0 (λ us. r.ends (r.answers (r.text us))) (λ us. Ok (v.Text us)) (λ us more. refl))

pub text_from-is : (by : ℕ) (this : Value) (args : List Value) (h : Objects) → row_done r.text_from by this args h ≡ told (text_from args h) h
text_from-is by this [] h = refl
text_from-is by this (x ∷ xs) h =
    done_by r.text_from by this (x ∷ xs) h (told (text_from (x ∷ xs) h) h) (text_yields by this (x ∷ xs) h (core.text_from (suc (suc (length xs)))) (rw (more_than_one (length xs)) refl))

-- the outcome of an answer is the row's
pub comes : (d : Done) (a : Result Value Stop) (r : Result Outcome Stop) (answer : Result Value Fault) (h : Objects) → d ≡ told answer h → Answers a answer → r ≡ outcome_of a → Comes d r h
comes d a r answer h row answers same = rw row (told_comes a r answer h answers same)

-- the best of some numbers goes on by one
pub best_from-fault : (wanted : Best) (best : ℤ) (values : List Value) (i : ℕ) (h : Objects) (x : Value) (e : Stop) → i < length values → x ≡ get_or values i x → Answers {A = ℤ} (Err e) (number_of h x)
    → Answers {A = Value} (Err e) (best_from (better wanted) best (drop i values) h)
best_from-fault wanted best values i h x e within is fault =
    let rest : drop i values ≡ x ∷ drop (suc i) values = subst (λ y. drop i values ≡ y ∷ drop (suc i) values) (sym is) (drop-cons values i x within) in
    rw rest (and_then-fault e (numbers_of h (x ∷ drop (suc i) values)) (λ ns. Ok (v.Num (chosen (better wanted) best ns))) (and_then-fault e (number_of h x) _ fault))
