-- What a character of one class is not.
use Rattle.std.proofs.Common.{◌≡◌, ℕ, ◌+◌, ◌&&◌, not, Bool, true, false, List, [], ◌∷◌, None, refl, subst, inl, inr, arith, nat_eq}
use Rattle.std.specs.List.{position_from}
use Rattle.std.proofs.lemmas.Bool.Decides.{eqb_tells, nat_tests}
use Rattle.caja_units.specs.Units.{same_units}
use Rattle.es3_tokens.proofs.Tests.{and_parts, false_of}
use Rattle.es3_tokens.specs.Characters.{is_digit, is_letter, is_line, is_quote, is_slash, is_white}

-- what begins no gap
pub record Solid (c : ℕ) : Type 0 where
  pub white : is_white c ≡ false
  pub line : is_line c ≡ false
  pub slash : is_slash c ≡ false

-- what no refusal stands at, unless it is a digit
pub record Plain (c : ℕ) : Type 0 where
  pub backslash : nat_eq c 92 ≡ false
  pub quote : is_quote c ≡ false
  pub slash : is_slash c ≡ false
  pub dot : nat_eq c 46 ≡ false

-- what begins a punctuator, if it begins anything
pub record Sign (c : ℕ) : Type 0 where
  pub letter : is_letter c ≡ false
  pub digit : is_digit c ≡ false
  pub quote : is_quote c ≡ false

pub letter_solid : (c : ℕ) → is_letter c ≡ true → Solid c
letter_solid c h = record { white = grind (arith, nat_tests); line = grind (arith, nat_tests); slash = grind (arith, nat_tests) }

pub letter_plain : (c : ℕ) → is_letter c ≡ true → Plain c
letter_plain c h = record { backslash = grind (arith, nat_tests); quote = grind (arith, nat_tests); slash = grind (arith, nat_tests); dot = grind (arith, nat_tests) }

pub letter_no_digit : (c : ℕ) → is_letter c ≡ true → is_digit c ≡ false
letter_no_digit c h = grind (arith, nat_tests)

pub letter_no_zero : (c : ℕ) → is_letter c ≡ true → nat_eq c 48 ≡ false
letter_no_zero c h = grind (arith, nat_tests)

pub digit_solid : (c : ℕ) → is_digit c ≡ true → Solid c
digit_solid c h = record { white = grind (arith, nat_tests); line = grind (arith, nat_tests); slash = grind (arith, nat_tests) }

pub digit_plain : (c : ℕ) → is_digit c ≡ true → Plain c
digit_plain c h = record { backslash = grind (arith, nat_tests); quote = grind (arith, nat_tests); slash = grind (arith, nat_tests); dot = grind (arith, nat_tests) }

pub digit_no_letter : (c : ℕ) → is_digit c ≡ true → is_letter c ≡ false
digit_no_letter c h = grind (arith, nat_tests)

pub no_digit_no_zero : (c : ℕ) → is_digit c ≡ false → nat_eq c 48 ≡ false
no_digit_no_zero c h = grind (arith, nat_tests)

pub quote_solid : (c : ℕ) → is_quote c ≡ true → Solid c
quote_solid c h = record { white = grind (arith, nat_tests); line = grind (arith, nat_tests); slash = grind (arith, nat_tests) }

pub quote_other : (c : ℕ) → is_quote c ≡ true → (nat_eq c 92 ≡ false) × (is_letter c ≡ false) × (is_digit c ≡ false)
quote_other c h = (grind (arith, nat_tests), grind (arith, nat_tests), grind (arith, nat_tests))

-- whether the first characters of a table's entries fail a test
abbrev pub fail : (ℕ → Bool) → List (List ℕ) → Bool
fail p [] = true
fail p ([] ∷ ps) = false
fail p ((d ∷ w) ∷ ps) = not (p d) && fail p ps

differs : (p : ℕ → Bool) (n m : ℕ) → p n ≡ true → p m ≡ false → nat_eq n m ≡ false
differs p n m h fails =
    elim (eqb_tells n m) [
      | inl q ↦ absurd (let e : p m ≡ true = subst (λ (k : ℕ). p k ≡ true) q.1 h in cc (e, fails))
      | inr q ↦ q.0
    ]

-- then no entry begins with a character that passes
pub no_place : (p : ℕ → Bool) (n c : ℕ) (s : List ℕ) (ps : List (List ℕ)) → p c ≡ true → fail p ps ≡ true → position_from (same_units (c ∷ s)) n ps ≡ None
no_place p n c s [] h f = refl
no_place p n c s ([] ∷ ps) h f = absurd cc
no_place p n c s ((d ∷ w) ∷ ps) h f =
    let b = and_parts (not (p d)) (fail p ps) f in
    let e : nat_eq c d ≡ false = differs p c d h (false_of (p d) b.0) in
    rw e (no_place p (n + 1) c s ps h b.1)
