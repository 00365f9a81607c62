-- Keys and values in turn, a pair after another.
use Rattle.std.proofs.Common.{◌≡◌, ℕ, zero, suc, ◌+◌, ◌<◌, List, [], ◌∷◌, ◌++◌, Result, Ok, Err, length, get_or, drop, refl, ap, ◌∙◌, arith, append_assoc}
use Rattle.plans.specs.Plans.{Fault}
use Rattle.es3_objects.specs.declared.value.Value.{Value}
use Rattle.es3_objects.specs.declared.value.Stop.{Stop}
use Rattle.es3_heap.specs.Objects.{Objects}
use Rattle.es3_convert.specs.Answers.{Answers}
use Rattle.es3_convert.specs.Conversions.{and_then, text_of}
use Rattle.es3_convert.proofs.Faults.{and_then-fault}
use Rattle.row_outcomes.specs.Arguments.{argument}
use Rattle.guard_runtime.specs.Guards.{keyed}

abbrev Pair : Type 0
Pair = List ℕ × Value

keyed-pair : (h : Objects) (x : Value) (xs : List Value) → keyed h (x ∷ xs) ≡ and_then (text_of h x) (λ us. and_then (keyed h (drop 1 xs)) (λ pairs. Ok ((us, argument 0 xs) ∷ pairs)))
keyed-pair h x [] = refl
keyed-pair h x (y ∷ rest) = refl

-- the items from a place on are a key, its value and the others
keyed-drop : (h : Objects) (xs : List Value) (at : ℕ) (x : Value) → at < length xs → x ≡ get_or xs at x → keyed h (drop at xs) ≡ and_then (text_of h x) (λ us. and_then (keyed h (drop (at + 2) xs)) (λ pairs. Ok ((us, argument (at + 1) xs) ∷ pairs)))
keyed-drop h [] at x less is = absurd (omega arith)
keyed-drop h (y ∷ ys) zero x less is = rw is (keyed-pair h y ys)
keyed-drop h (y ∷ ys) (suc at) x less is =
    let two : suc at + 2 ≡ suc (at + 2) = omega arith in
    let one : suc at + 1 ≡ suc (at + 1) = omega arith in
    rw (two, one) (keyed-drop h ys at x (omega arith) is)

behind : (before : List Pair) (p : Pair) (rest : Result (List Pair) Fault) → and_then (and_then rest (λ pairs. Ok (p ∷ pairs))) (λ pairs. Ok (before ++ pairs)) ≡ and_then rest (λ pairs. Ok ((before ++ p ∷ []) ++ pairs))
behind before p (Ok pairs) = ap (λ all. let r : Result (List Pair) Fault = Ok all in r) (simp append_assoc)
behind before p (Err f) = refl

-- a turn of the loop: a key and its value more
pub keyed-more : (h : Objects) (xs : List Value) (at : ℕ) (x value : Value) (us : List ℕ) (before after : List Pair) (all : Result (List Pair) Fault) → at < length xs
    → x ≡ get_or xs at x
    → all ≡ and_then (keyed h (drop at xs)) (λ pairs. Ok (before ++ pairs))
    → text_of h x ≡ Ok us
    → value ≡ argument (at + 1) xs
    → after ≡ before ++ (us, value) ∷ []
    → all ≡ and_then (keyed h (drop (at + 2) xs)) (λ pairs. Ok (after ++ pairs))
keyed-more h xs at x value us before after all less is so_far text here pushed =
    so_far ∙ rw (keyed-drop h xs at x less is, text, pushed, here) (behind before (us, argument (at + 1) xs) (keyed h (drop (at + 2) xs)))

-- a fault of a key is the fault of all
pub keyed-fault : (h : Objects) (xs : List Value) (at : ℕ) (x : Value) (before : List Pair) (all : Result (List Pair) Fault) (e : Stop) → at < length xs
    → x ≡ get_or xs at x
    → all ≡ and_then (keyed h (drop at xs)) (λ pairs. Ok (before ++ pairs))
    → Answers {A = List ℕ} (Err e) (text_of h x)
    → Answers {A = List Pair} (Err e) all
keyed-fault h xs at x before all e less is so_far fault =
    rw (so_far, keyed-drop h xs at x less is) (and_then-fault e _ _ (and_then-fault e (text_of h x) _ fault))
