-- What the rows of built-in functions make of the texts of all their arguments.
use Rattle.std.proofs.Common.{◌≡◌, ℕ, suc, List, [], ◌∷◌, ◌++◌, map, length, Result, Ok, Err, refl, sym, ap, ◌∙◌}
use Rattle.plans.specs.Plans.{Fault}
use Rattle.es3_objects.specs.declared.value.Value.{Value}
use Rattle.es3_heap.specs.Objects.{Objects}
use Rattle.es3_convert.specs.Conversions.{and_then, text_of}
use Rattle.rows.specs.Rows.{Row, Handle}
use Rattle.rows.specs.Arguments.{arguments, as_texts}
use Rattle.heap_rows.specs.Doing.{Done, value_in, does}
use Rattle.heap_rows.specs.Opening.{place_of, empty_page}
use Rattle.row_outcomes.specs.Arguments.{after}
use Rattle.row_outcomes.specs.Lists.{texts_of}
use Rattle.row_outcomes.proofs.Arguments.{Yields, text_after}
use Rattle.row_outcomes.proofs.Numbers.{arguments_held}

-- a conversion, and then another one
pub after-then : {A B : Type 0} (first : Result A Fault) (next : A → Result B Fault) (h : Objects) (done : B → Done) → after (and_then first next) h done ≡ after first h (λ x. after (next x) h done)
after-then (Ok x) next h done = refl
after-then (Err f) next h done = refl

texts_done : (by : ℕ) (vs : List Value) (h : Objects) (xs : List Handle) (go : List (List ℕ) → Row) (done : List (List ℕ) → Done) → ((uss : List (List ℕ)) → (does place_of by (go uss) vs h empty_page []).done ≡ done uss)
    → (does place_of by (as_texts xs go) vs h empty_page []).done ≡ after (texts_of h (map (value_in place_of vs) xs)) h done
texts_done by vs h [] go done yields = yields []
texts_done by vs h (x ∷ xs) go done yields =
    let others = texts_of h (map (value_in place_of vs) xs) in
    let first = text_of h (value_in place_of vs x) in
    text_after by vs h (λ us. as_texts xs (λ r. go (us ∷ r))) (λ us. after (and_then others (λ r. Ok (us ∷ r))) h done) first
    (λ us. texts_done by vs h xs (λ r. go (us ∷ r)) (λ r. done (us ∷ r)) (λ r. yields (us ∷ r)) ∙ sym (after-then others (λ r. Ok (us ∷ r)) h done))
    ∙ sym (after-then first (λ us. and_then others (λ r. Ok (us ∷ r))) h done)

-- all the arguments
pub as_texts_does : (by : ℕ) (this : Value) (args : List Value) (h : Objects) (go : List (List ℕ) → Row) (done : List (List ℕ) → Done) → ((uss : List (List ℕ)) → Yields by this args h (go uss) (done uss))
    → Yields by this args h (as_texts (arguments (suc (length args))) go) (after (texts_of h args) h done)
as_texts_does by this args h go done yields = λ more.
    texts_done by (this ∷ (args ++ more)) h (arguments (suc (length args))) go done (λ uss. yields uss more)
    ∙ ap (λ xs. after (texts_of h xs) h done) (arguments_held place_of this args more)
