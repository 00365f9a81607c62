-- Spellings, and what stands beside them in a table.
use Rattle.std.proofs.Common.{◌≡◌, ◌≢◌, ℕ, ◌+◌, ◌&&◌, Bool, true, false, cond, List, [], ◌∷◌, Option, Some, None, refl, ap, ◌∙◌, arith, nat_eq, length, map}
use Rattle.std.specs.Borrow.{Bor}
use Rattle.std.specs.Prelude.{if◌then◌else◌}
use Rattle.std.specs.List.{position_from}
use Rattle.caja_units.specs.Units.{same_units}
use Rattle.es3_lexer.specs.Tables.{found_in}
use Rattle.es3_tokens.proofs.Tests.{and_false, and_parts, eq_of}

pub same_longer : (s t : List ℕ) → length s ≢ length t → same_units s t ≡ false
same_longer [] [] h = absurd (h refl)
same_longer [] (d ∷ t) h = refl
same_longer (c ∷ s) [] h = refl
same_longer (c ∷ s) (d ∷ t) h = and_false (nat_eq c d) (same_units s t) (same_longer s t (λ e. h (omega (arith, e))))

-- whether the entries of a table have the numbers from n on
abbrev pub numbered : {X : Type 0} → (X → ℕ) → ℕ → List X → Bool
numbered g n [] = true
numbered g n (x ∷ xs) = nat_eq (g x) n && numbered g (n + 1) xs

-- then the number of the first entry of a spelling is its place
pub found_place : {T : Type 0} (g : T → ℕ) (h : Option T → Option ℕ) → h None ≡ None → ((x : T) → h (Some x) ≡ Some (g x)) → (n : ℕ) (xs : List (Bor (List ℕ) × T)) (s : List ℕ) → numbered (λ x. g x.1) n xs ≡ true
    → h (found_in xs s) ≡ position_from (same_units s) n (map (λ x. x.0.now) xs)
unfolding found_in
found_place g h none some n [] s e = none
found_place g h none some n (x ∷ xs) s e =
    let p = and_parts (nat_eq (g x.1) n) (numbered (λ x. g x.1) (n + 1) xs) e in
    by_test g h n x xs s (same_units s x.0.now) (some x.1 ∙ ap (λ k. Some k) (eq_of (g x.1) n p.0)) (found_place g h none some (n + 1) xs s p.1)
  where
    by_test : {T : Type 0} (g : T → ℕ) (h : Option T → Option ℕ) (n : ℕ) (x : Bor (List ℕ) × T) (xs : List (Bor (List ℕ) × T)) (s : List ℕ) (b : Bool) → h (Some x.1) ≡ Some n → h (found_in xs s) ≡ position_from (same_units s) (n + 1) (map (λ x. x.0.now) xs)
        → h (if b then Some x.1 else found_in xs s) ≡ cond b (Some n) (position_from (same_units s) (n + 1) (map (λ x. x.0.now) xs))
    by_test g h n x xs s true e f = e
    by_test g h n x xs s false e f = f
