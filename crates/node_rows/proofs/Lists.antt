-- Lists that tell the same at each place.
use Rattle.std.proofs.Common.{◌≡◌, ℕ, zero, suc, ◌+◌, ◌<◌, ◌≤◌, List, [], ◌∷◌, ◌++◌, Option, Some, None, length, refl, sym, ap, ◌∙◌, arith}
use Rattle.std.specs.Prelude.{slice_get}

some_same : (a b : ℕ) → ◌≡◌ {A = Option ℕ} (Some a) (Some b) → b ≡ a
some_same a b h = cc

nothing_there : (x : ℕ) → ◌≡◌ {A = Option ℕ} None (Some x) → ⊥
nothing_there x h = cc

pub same_places : (xs ys : List ℕ) → ((j x : ℕ) → ◌≡◌ {A = Option ℕ} (slice_get xs j) (Some x) → ◌≡◌ {A = Option ℕ} (slice_get ys j) (Some x)) → length ys ≤ length xs → ys ≡ xs
same_places [] [] each few = refl
same_places [] (y ∷ ys) each few = absurd (omega arith)
same_places (x ∷ xs) [] each few = absurd (nothing_there x (each 0 x refl))
same_places (x ∷ xs) (y ∷ ys) each few =
    ap (λ z. z ∷ ys) (sym (some_same y x (each 0 x refl)))
    ∙ ap (λ zs. x ∷ zs) (same_places xs ys (λ j z at. each (suc j) z at) (omega arith))

-- one more, the last
pub one_behind : (xs ys : List ℕ) (new : ℕ) → ((j x : ℕ) → ◌≡◌ {A = Option ℕ} (slice_get xs j) (Some x) → ◌≡◌ {A = Option ℕ} (slice_get ys j) (Some x)) → ◌≡◌ {A = Option ℕ} (slice_get ys (length xs)) (Some new)
    → length ys ≤ suc (length xs) → ys ≡ xs ++ new ∷ []
one_behind [] [] new each last few = absurd (nothing_there new last)
one_behind [] (y ∷ []) new each last few = ap (λ z. z ∷ []) (sym (some_same y new last))
one_behind [] (y ∷ z ∷ ys) new each last few = absurd (omega arith)
one_behind (x ∷ xs) [] new each last few = absurd (nothing_there x (each 0 x refl))
one_behind (x ∷ xs) (y ∷ ys) new each last few =
    ap (λ z. z ∷ ys) (sym (some_same y x (each 0 x refl)))
    ∙ ap (λ zs. x ∷ zs) (one_behind xs ys new (λ j z at. each (suc j) z at) last (omega arith))

-- a value behind others, and what stands behind others
pub get_first : {V : Type 0} (before : List V) (x : V) (rest : List V) (n : ℕ) → length before ≡ n → slice_get (before ++ x ∷ rest) n ≡ Some x
get_first [] x rest zero at = refl
get_first [] x rest (suc n) at = absurd (omega (arith, at))
get_first (b ∷ before) x rest zero at = absurd (omega (arith, at))
get_first (b ∷ before) x rest (suc n) at = get_first before x rest n (omega (arith, at))

pub get_behind : {V : Type 0} (before rest : List V) (i n : ℕ) → n ≡ length before + i → slice_get (before ++ rest) n ≡ slice_get rest i
get_behind [] rest i n at = let same : n ≡ i = omega (arith, at) in ap (slice_get rest) same
get_behind (b ∷ before) rest i zero at = absurd (omega (arith, at))
get_behind (b ∷ before) rest i (suc n) at = get_behind before rest i n (omega (arith, at))

-- what stands before others
pub get_before : {V : Type 0} (xs rest : List V) (i : ℕ) → i < length xs → slice_get (xs ++ rest) i ≡ slice_get xs i
get_before [] rest i less = absurd (omega arith)
get_before (x ∷ xs) rest zero less = refl
get_before (x ∷ xs) rest (suc i) less = get_before xs rest i (omega arith)
