-- A list that grows by what is made of the next number.
use Rattle.std.proofs.Common.{◌≡◌, ◌∙◌, ℕ, ◌+◌, List, [], ◌∷◌, ◌++◌, map, sym, ap₂, arith}
use Rattle.std.specs.List.{range_with_len}
use Rattle.std.proofs.lemmas.List.{map-append}
use Rattle.std.proofs.lemmas.List.FromFn.{map-range_with_len_more}

pub one_more : {A B : Type 0} (shown : A → B) (f : ℕ → B) (items : List A) (j : ℕ) (a : A) → map shown items ≡ map f (range_with_len 0 j) → shown a ≡ f j
    → map shown (items ++ a ∷ []) ≡ map f (range_with_len 0 (j + 1))
one_more {B = B} shown f items j a before at =
    map-append shown items (a ∷ []) ∙ ap₂ (λ (xs : List B) (x : B). xs ++ x ∷ []) before at ∙ sym (map-range_with_len_more f 0 j j (omega arith))
