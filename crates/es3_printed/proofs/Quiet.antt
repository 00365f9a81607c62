-- Texts whose characters neither begin nor end markup: words, numbers and literals.
use Rattle.std.proofs.Common.{◌≡◌, ℕ, zero, suc, ◌+◌, ◌<◌, ◌%◌, ◌/◌, ℤ, pos, negsuc, Bool, true, false, List, [], ◌∷◌, refl, arith, nat_lt, nat_eq}
use Rattle.std.specs.Prelude.{not, ◌&&◌, ◌||◌, Option, Some, None}
use Rattle.std.specs.List.{All, list_all}
use Rattle.std.specs.Fmt.{digits, digits_onto, digit_glyph}
use Rattle.std.proofs.lemmas.List.Elements.{All-head, All-tail}
use Rattle.std.proofs.lemmas.Bool.{and_parts, and_from, cond_both}
use Rattle.std.proofs.lemmas.Bool.Decides.{nat_tests}
use Rattle.caja_units.specs.Literal.{literal, IsLiteralByte}
use Rattle.caja_units.specs.Number.{number_text}
use Rattle.caja_units.proofs.Literals.{literal-bytes}
use Rattle.es3_tokens.specs.Characters.{is_part, begins}
use Rattle.es3_printed.specs.Text.{last_of}
use Rattle.es3_printed.specs.Safe.{is_markup, is_safe}

-- a character of ASCII that is neither `<` nor `>`
abbrev pub is_quiet : ℕ → Bool
is_quiet c = nat_lt c 128 && not (nat_eq c 60 || nat_eq c 62)

-- one with which no punctuator goes on but `++` and `--`, no comment begins behind a `/`, and no markup behind a `<` but `<!`
abbrev pub is_tame : ℕ → Bool
is_tame c = not (nat_eq c 47 || nat_eq c 42 || nat_eq c 60 || nat_eq c 62 || nat_eq c 61 || nat_eq c 38 || nat_eq c 124)

-- whether a text is not empty; whether its last character is of a class
abbrev pub is_filled : List ℕ → Bool
is_filled [] = false
is_filled (c ∷ s) = true

abbrev pub is_such : (ℕ → Bool) → Option ℕ → Bool
is_such p None = false
is_such p (Some c) = p c

pub part_quiet : (c : ℕ) → is_part c ≡ true → is_quiet c ≡ true
part_quiet c h = grind (arith, nat_tests)

pub part_tame : (c : ℕ) → is_part c ≡ true → is_tame c ≡ true
part_tame c h = grind (arith, nat_tests)

-- texts of such characters

pub all_such : (p q : ℕ → Bool) → ((c : ℕ) → p c ≡ true → q c ≡ true) → (s : List ℕ) → list_all p s ≡ true → list_all q s ≡ true
all_such p q f [] h = refl
all_such p q f (c ∷ s) h = let a = and_parts (p c) (list_all p s) h in and_from (q c) (list_all q s) (f c a.0) (all_such p q f s a.1)

pub first_such : (p : ℕ → Bool) (s : List ℕ) → is_filled s ≡ true → list_all p s ≡ true → begins p s ≡ true
first_such p [] f h = absurd cc
first_such p (c ∷ s) f h = (and_parts (p c) (list_all p s) h).0

pub last_such : (p : ℕ → Bool) (s : List ℕ) → is_filled s ≡ true → list_all p s ≡ true → is_such p (last_of s) ≡ true
last_such p [] f h = absurd cc
last_such p (c ∷ []) f h = (and_parts (p c) true h).0
last_such p (c ∷ d ∷ s) f h = last_such p (d ∷ s) refl (and_parts (p c) (list_all p (d ∷ s)) h).1

apart : (a b : ℕ) → is_quiet a ≡ true → is_quiet b ≡ true → (nat_lt a 128 && not (is_markup a b)) ≡ true
apart a b p q = grind (arith, nat_tests)

pub quiet_safe : (s : List ℕ) → list_all is_quiet s ≡ true → is_safe s ≡ true
quiet_safe [] h = refl
quiet_safe (c ∷ []) h = (and_parts (nat_lt c 128) _ (and_parts (is_quiet c) true h).0).0
quiet_safe (c ∷ d ∷ s) h =
    let a = and_parts (is_quiet c) (list_all is_quiet (d ∷ s)) h in
    let b = and_parts (is_quiet d) (list_all is_quiet s) a.1 in
    and_from (nat_lt c 128 && not (is_markup c d)) (is_safe (d ∷ s)) (apart c d a.0 b.0) (quiet_safe (d ∷ s) a.1)

-- texts of parts of names

pub record IsParts (s : List ℕ) : Type 0 where
  pub filled : is_filled s ≡ true
  pub parts : list_all is_part s ≡ true

-- 7.8.3: the digits of a number
glyph : (d : ℕ) → d < 10 → is_part (digit_glyph false d) ≡ true
glyph d lt = grind (arith, nat_tests)

one_digit : (n : ℕ) (s : List ℕ) → list_all is_part s ≡ true → IsParts (digit_glyph false (n % 10) ∷ s)
one_digit n s h = record { filled = refl; parts = and_from (is_part (digit_glyph false (n % 10))) (list_all is_part s) (glyph (n % 10) (omega arith)) h }

digits_parts : (k n : ℕ) (s : List ℕ) → IsParts s → IsParts (digits_onto k 10 false n s)
digits_parts zero n s h = h
digits_parts (suc k) n s h =
    cond_both (nat_eq (n / 10) 0) (digit_glyph false (n % 10) ∷ s) (digits_onto k 10 false (n / 10) (digit_glyph false (n % 10) ∷ s)) IsParts
    (λ _. one_digit n s h.parts) (λ _. digits_parts k (n / 10) (digit_glyph false (n % 10) ∷ s) (one_digit n s h.parts))

first_digits : (k n : ℕ) → IsParts (digits_onto (suc k) 10 false n [])
first_digits k n =
    cond_both (nat_eq (n / 10) 0) (digit_glyph false (n % 10) ∷ []) (digits_onto k 10 false (n / 10) (digit_glyph false (n % 10) ∷ [])) IsParts
    (λ _. one_digit n [] refl) (λ _. digits_parts k (n / 10) (digit_glyph false (n % 10) ∷ []) (one_digit n [] refl))

pub decimal_parts : (n : ℕ) → IsParts (digits 10 false n)
unfolding digits
decimal_parts n = first_digits 63 n

-- 7.8.4: a text in quotes
literal_quiet : (s : List ℕ) → All IsLiteralByte s → list_all is_quiet s ≡ true
literal_quiet [] h = refl
literal_quiet (c ∷ s) h = and_from (is_quiet c) (list_all is_quiet s) (byte c (All-head IsLiteralByte c s h)) (literal_quiet s (All-tail IsLiteralByte c s h))
  where
    byte : (c : ℕ) → IsLiteralByte c → is_quiet c ≡ true
    byte c b = let top = b.to_tilde in let less = b.not_less in let greater = b.not_greater in grind (arith, nat_tests)

-- quiet, and with a tame character first
pub record IsTame (s : List ℕ) : Type 0 where
  pub quiet : list_all is_quiet s ≡ true
  pub filled : is_filled s ≡ true
  pub first : begins is_tame s ≡ true

pub parts_tame : {s : List ℕ} → IsParts s → IsTame s
parts_tame {s} h = record {
  quiet = all_such is_part is_quiet part_quiet s h.parts;
  filled = h.filled;
  first = first_such is_tame s h.filled (all_such is_part is_tame part_tame s h.parts);
}

pub literal_tame : (us : List ℕ) → IsTame (literal us)
literal_tame us = record { quiet = literal_quiet (literal us) (literal-bytes us); filled = refl; first = refl }

pub number_tame : (z : ℤ) → IsTame (number_text z)
number_tame (pos n) = parts_tame (decimal_parts n)
number_tame (negsuc n) = record { quiet = all_such is_part is_quiet part_quiet (digits 10 false (n + 1)) (decimal_parts (n + 1)).parts; filled = refl; first = refl }
