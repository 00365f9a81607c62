-- What the handles of values one after another stand for, and what a row makes of the numbers of all its arguments.
use Rattle.std.proofs.Common.{◌≡◌, ℕ, zero, suc, ◌+◌, ◌-◌, List, [], ◌∷◌, ◌++◌, length, map, Result, Ok, Err, refl, ap, ◌∙◌, arith}
use Rattle.std.specs.Prelude.{ℤ}
use Rattle.plans.specs.Plans.{Fault}
use Rattle.es3_objects.specs.declared.value.Value.{Value}
use Rattle.es3_heap.specs.Objects.{Objects}
use Rattle.es3_convert.specs.Conversions.{and_then}
use Rattle.es3_convert.specs.Numbers.{number_of}
use Rattle.rows.specs.Rows.{Native, Row, Handle, held}
use Rattle.rows.specs.Arguments as rows
use Rattle.rows.specs.Arguments.{values_from, as_numbers}
use Rattle.heap_rows.specs.Doing.{value_in, with_result, does}
use Rattle.heap_rows.specs.Opening.{place_of, empty_page}
use Rattle.row_outcomes.specs.Arguments.{told}
use Rattle.row_outcomes.specs.Numbers.{numbers_of}
use Rattle.row_outcomes.proofs.Arguments.{Yields, number_after, told_after}

-- one more value in front
pub next_values : (fs : Native → ℕ) (x : Value) (xs : List Value) (i n : ℕ) → map (value_in fs (x ∷ xs)) (values_from (suc i) n) ≡ map (value_in fs xs) (values_from i n)
next_values fs x xs i zero = refl
next_values fs x xs i (suc n) =
    let e : suc i + 1 ≡ suc (i + 1) = omega arith in
    rw e (ap (λ l. value_in fs xs (held i) ∷ l) (next_values fs x xs (i + 1) n))

pub first_values : (fs : Native → ℕ) (xs more : List Value) → map (value_in fs (xs ++ more)) (values_from 0 (length xs)) ≡ xs
first_values fs [] more = refl
first_values fs (x ∷ xs) more = ap (λ l. x ∷ l) (next_values fs x (xs ++ more) 0 (length xs) ∙ first_values fs xs more)

-- all arguments by their handles
pub arguments_held : (fs : Native → ℕ) (this : Value) (args more : List Value) → map (value_in fs (this ∷ (args ++ more))) (rows.arguments (suc (length args))) ≡ args
arguments_held fs this args more =
    let e : suc (length args) - 1 ≡ length args = omega arith in
    rw e (next_values fs this (args ++ more) 0 (length args) ∙ first_values fs args more)

-- a number in front of others
regrouped : (first : Result ℤ Fault) (others : Result (List ℤ) Fault) (answer : List ℤ → Result Value Fault)
    → and_then first (λ n. and_then others (λ ns. answer (n ∷ ns))) ≡ and_then (and_then first (λ n. and_then others (λ ns. Ok (n ∷ ns)))) answer
regrouped (Ok n) (Ok ns) answer = refl
regrouped (Ok n) (Err f) answer = refl
regrouped (Err f) others answer = refl

number_told : (by : ℕ) (vs : List Value) (h : Objects) (go : ℤ → Row) (answer : ℤ → Result Value Fault) (n : Result ℤ Fault) → ((i : ℤ) → (does place_of by (go i) vs h empty_page []).done ≡ told (answer i) h)
    → (with_result n h empty_page [] (λ i. does place_of by (go i) vs h empty_page [])).done ≡ told (and_then n answer) h
number_told by vs h go answer n yields = number_after by vs h go (λ i. told (answer i) h) n yields ∙ told_after n h answer

numbers_told : (by : ℕ) (vs : List Value) (h : Objects) (xs : List Handle) (go : List ℤ → Row) (answer : List ℤ → Result Value Fault) → ((ns : List ℤ) → (does place_of by (go ns) vs h empty_page []).done ≡ told (answer ns) h)
    → (does place_of by (as_numbers xs go) vs h empty_page []).done ≡ told (and_then (numbers_of h (map (value_in place_of vs) xs)) answer) h
numbers_told by vs h [] go answer yields = yields []
numbers_told by vs h (x ∷ xs) go answer yields =
    let others = numbers_of h (map (value_in place_of vs) xs) in
    number_told by vs h (λ n. as_numbers xs (λ ns. go (n ∷ ns))) (λ n. and_then others (λ ns. answer (n ∷ ns))) (number_of h (value_in place_of vs x)) (λ n. numbers_told by vs h xs (λ ns. go (n ∷ ns)) (λ ns. answer (n ∷ ns)) (λ ns. yields (n ∷ ns)))
    ∙ ap (λ a. told a h) (regrouped (number_of h (value_in place_of vs x)) others answer)

pub as_numbers_yields : (by : ℕ) (this : Value) (args : List Value) (h : Objects) (go : List ℤ → Row) (answer : List ℤ → Result Value Fault) → ((ns : List ℤ) → Yields by this args h (go ns) (told (answer ns) h))
    → Yields by this args h (as_numbers (rows.arguments (suc (length args))) go) (told (and_then (numbers_of h args) answer) h)
as_numbers_yields by this args h go answer yields = λ more.
    numbers_told by (this ∷ (args ++ more)) h (rows.arguments (suc (length args))) go answer (λ ns. yields ns more)
    ∙ ap (λ xs. told (and_then (numbers_of h xs) answer) h) (arguments_held place_of this args more)
