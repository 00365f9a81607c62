-- Lists: what stands at a place, how often a number stands in a list, and what is left without it.
use Rattle.std.proofs.Common.{◌≡◌, ◌≢◌, ℕ, zero, suc, ◌+◌, ◌-◌, ◌<◌, Bool, true, false, not, List, [], ◌∷◌, ◌++◌, Option, Some, None, length, set, cond, nat_eq, nat_lt, slice_get, position, refl, sym, ap, ◌∙◌, arith}
use Rattle.std.proofs.Math.Dec.{eqb}
use Rattle.std.proofs.lemmas.Bool.{eqb-true, eq-eqb}
use Rattle.std.proofs.lemmas.Bool.Decides.{nat_tests}
use Rattle.std.specs.List.{position_or_len}
use Rattle.doc_nodes.specs.Changes.{without, without_at}
use Rattle.doc_laws.specs.Forest.{one_if, times}

pub get_push : {X : Type 0} (xs : List X) (y : X) → slice_get (xs ++ y ∷ []) (length xs) ≡ Some y
get_push [] y = refl
get_push (x ∷ xs) y = get_push xs y

pub get_push_other : {X : Type 0} (xs : List X) (n : ℕ) (y : X) → n ≢ length xs → slice_get (xs ++ y ∷ []) n ≡ slice_get xs n
get_push_other [] zero y ne = absurd (ne refl)
get_push_other [] (suc n) y ne = refl
get_push_other (x ∷ xs) zero y ne = refl
get_push_other (x ∷ xs) (suc n) y ne = get_push_other xs n y (λ e. ne (ap suc e))

pub get_past : {X : Type 0} (xs : List X) → slice_get xs (length xs) ≡ None
get_past [] = refl
get_past (x ∷ xs) = get_past xs

pub get_set : {X : Type 0} (xs : List X) (i : ℕ) (y : X) → i < length xs → slice_get (set xs i y) i ≡ Some y
get_set [] i y h = absurd (omega arith)
get_set (z ∷ zs) zero y h = refl
get_set (z ∷ zs) (suc i) y h = get_set zs i y (omega arith)

pub get_set_other : {X : Type 0} (xs : List X) (n i : ℕ) (y : X) → n ≢ i → slice_get (set xs i y) n ≡ slice_get xs n
get_set_other [] n i y ne = refl
get_set_other (z ∷ zs) zero zero y ne = absurd (ne refl)
get_set_other (z ∷ zs) zero (suc i) y ne = refl
get_set_other (z ∷ zs) (suc n) zero y ne = refl
get_set_other (z ∷ zs) (suc n) (suc i) y ne = get_set_other zs n i y (λ e. ne (ap suc e))

pub there : {X : Type 0} (xs : List X) (n : ℕ) → n < length xs → (x : X) × (slice_get xs n ≡ Some x)
there [] n h = absurd (omega arith)
there (x ∷ xs) zero h = (x, refl)
there (x ∷ xs) (suc n) h = there xs n (omega arith)

pub apart : (a b : ℕ) → eqb a b ≡ false → a ≢ b
apart a b h e = let yes : eqb a b ≡ true = eq-eqb a b e in cc

pub not_same : (a b : ℕ) → a ≢ b → eqb a b ≡ false
not_same a b ne =
    let cases = elim (eqb a b) as (λ t. eqb a b ≡ t → t ≡ false) [ true ↦ λ same. absurd (ne (eqb-true a b same)) | false ↦ λ other. refl ] in cases refl

pub flipped : (a b : ℕ) → nat_eq a b ≡ nat_eq b a
flipped a b =
    let cases = elim (eqb a b) as (λ t. eqb a b ≡ t → t ≡ eqb b a) [
      | true ↦ λ same. sym (eq-eqb b a (sym (eqb-true a b same)))
      | false ↦ λ other. sym (not_same b a (λ e. apart a b other (sym e)))
    ] in cases refl

pub times-push : (n c : ℕ) (xs : List ℕ) → times n (xs ++ c ∷ []) ≡ times n xs + one_if (nat_eq c n)
times-push n c [] = omega arith
times-push n c (x ∷ xs) = rw (times-push n c xs) (omega arith)

-- a list without the first place of a number, item by item
pub without-here : (c x : ℕ) (xs : List ℕ) → nat_eq c x ≡ true → without c (x ∷ xs) ≡ xs
without-here c x xs h = at (nat_eq c x) h
  where
    at : (b : Bool) → b ≡ true → without_at (cond (nat_lt (cond (not b) (1 + position_or_len (nat_eq c) xs) 0) (suc (length xs))) (Some (cond (not b) (1 + position_or_len (nat_eq c) xs) 0)) None) (x ∷ xs) ≡ xs
    at true h = let yes : nat_lt 0 (suc (length xs)) ≡ true = grind (arith, nat_tests) in rw yes refl
    at false h = cc

pub without-behind : (c x : ℕ) (xs : List ℕ) → nat_eq c x ≡ false → without c (x ∷ xs) ≡ x ∷ without c xs
without-behind c x xs h = at (nat_eq c x) h
  where
    further : (i k : ℕ) → without_at (cond (nat_lt (1 + i) (suc k)) (Some (1 + i)) None) (x ∷ xs) ≡ x ∷ without_at (cond (nat_lt i k) (Some i) None) xs
    further i k =
        let one : 1 + i ≡ suc i = omega arith in
        let cases = elim (nat_lt i k) as (λ b. nat_lt i k ≡ b → without_at (cond (nat_lt (1 + i) (suc k)) (Some (1 + i)) None) (x ∷ xs) ≡ x ∷ without_at (cond b (Some i) None) xs) [
          | true ↦ λ yes. let less : nat_lt (1 + i) (suc k) ≡ true = grind (arith, nat_tests) in rw (less, one) refl
          | false ↦ λ no. let past : nat_lt (1 + i) (suc k) ≡ false = grind (arith, nat_tests) in rw past refl
        ] in cases refl

    at : (b : Bool) → b ≡ false → without_at (cond (nat_lt (cond (not b) (1 + position_or_len (nat_eq c) xs) 0) (suc (length xs))) (Some (cond (not b) (1 + position_or_len (nat_eq c) xs) 0)) None) (x ∷ xs) ≡ x ∷ without c xs
    at true h = cc
    at false h = further (position_or_len (nat_eq c) xs) (length xs)

pub times-without : (c : ℕ) (xs : List ℕ) → times c (without c xs) ≡ times c xs - 1
times-without c [] = refl
times-without c (x ∷ xs) =
    let cases = elim (nat_eq c x) as (λ b. nat_eq c x ≡ b → times c (without c (x ∷ xs)) ≡ one_if (nat_eq x c) + times c xs - 1) [
      | true ↦ λ same. let yes : nat_eq x c ≡ true = flipped x c ∙ same in rw (without-here c x xs same, yes) (omega arith)
      | false ↦ λ other. let no : nat_eq x c ≡ false = flipped x c ∙ other in rw (without-behind c x xs other, no, times-without c xs) (omega arith)
    ] in cases refl

pub times-without_other : (n c : ℕ) (xs : List ℕ) → n ≢ c → times n (without c xs) ≡ times n xs
times-without_other n c [] ne = refl
times-without_other n c (x ∷ xs) ne =
    let cases = elim (nat_eq c x) as (λ b. nat_eq c x ≡ b → times n (without c (x ∷ xs)) ≡ one_if (nat_eq x n) + times n xs) [
      | true ↦ λ same. let other : nat_eq x n ≡ false = not_same x n (λ e. ne (sym (eqb-true c x same ∙ e))) in rw (without-here c x xs same, other) (omega arith)
      | false ↦ λ other. rw (without-behind c x xs other, times-without_other n c xs ne) refl
    ] in cases refl

-- a number that isn't there leaves no place
pub without_none : (c : ℕ) (xs : List ℕ) → times c xs ≡ 0 → without c xs ≡ xs
without_none c [] h = refl
without_none c (x ∷ xs) h =
    let cases = elim (nat_eq c x) as (λ b. nat_eq c x ≡ b → one_if b + times c xs ≡ 0 → without c (x ∷ xs) ≡ x ∷ xs) [
      | true ↦ λ same no. absurd (omega arith)
      | false ↦ λ other no. rw (without-behind c x xs other) (ap (λ ys. x ∷ ys) (without_none c xs (omega arith)))
    ] in cases refl (rw (← (flipped x c)) h)

-- where a number stands in a list, item by item
pub position-here : (n x : ℕ) (xs : List ℕ) → nat_eq n x ≡ true → position (nat_eq n) (x ∷ xs) ≡ Some 0
position-here n x xs h = at (nat_eq n x) h
  where
    at : (b : Bool) → b ≡ true → cond (nat_lt (cond (not b) (1 + position_or_len (nat_eq n) xs) 0) (suc (length xs))) (Some (cond (not b) (1 + position_or_len (nat_eq n) xs) 0)) None ≡ Some 0
    at true h = let yes : nat_lt 0 (suc (length xs)) ≡ true = grind (arith, nat_tests) in rw yes refl
    at false h = cc

abbrev pub next_place : Option ℕ → Option ℕ
next_place None = None
next_place (Some i) = Some (suc i)

pub position-behind : (n x : ℕ) (xs : List ℕ) → nat_eq n x ≡ false → position (nat_eq n) (x ∷ xs) ≡ next_place (position (nat_eq n) xs)
position-behind n x xs h = at (nat_eq n x) h
  where
    further : (i k : ℕ) → cond (nat_lt (1 + i) (suc k)) (Some (1 + i)) None ≡ next_place (cond (nat_lt i k) (Some i) None)
    further i k =
        let one : 1 + i ≡ suc i = omega arith in
        let cases = elim (nat_lt i k) as (λ b. nat_lt i k ≡ b → cond (nat_lt (1 + i) (suc k)) (Some (1 + i)) None ≡ next_place (cond b (Some i) None)) [
          | true ↦ λ yes. let less : nat_lt (1 + i) (suc k) ≡ true = grind (arith, nat_tests) in rw (less, one) refl
          | false ↦ λ no. let past : nat_lt (1 + i) (suc k) ≡ false = grind (arith, nat_tests) in rw past refl
        ] in cases refl

    at : (b : Bool) → b ≡ false → cond (nat_lt (cond (not b) (1 + position_or_len (nat_eq n) xs) 0) (suc (length xs))) (Some (cond (not b) (1 + position_or_len (nat_eq n) xs) 0)) None ≡ next_place (position (nat_eq n) xs)
    at true h = cc
    at false h = further (position_or_len (nat_eq n) xs) (length xs)
