-- The units of a text take as many bytes as the text has.
use Rattle.std.proofs.Common.{◌≡◌, ◌⊎◌, inl, inr, ⊎_elim, ℕ, ◌+◌, ◌-◌, ◌/◌, ◌%◌, ◌<◌, ◌≤◌, true, List, [], ◌∷◌, length, refl, ap, ◌∙◌, arith}
use Rattle.std.specs.Char.{len_utf8}
use Rattle.std.specs.Char.Escape.{encode_utf16}
use Rattle.std.specs.Str.{chars, IsUtf8, all_scalars}
use Rattle.std.proofs.Math.Utf8.{encode, encodes, scalar, scalar_cases}
use Rattle.std.proofs.str.Utf16.{one_unit, two_units}
use Rattle.std.proofs.lemmas.Bool.{and_parts, cases_lt}
use Rattle.std.proofs.lemmas.Bool.Decides.{nat_tests}
use Rattle.std.proofs.lemmas.List.{length-append}
use Rattle.std.proofs.lemmas.List.Sums.{sum_by-cons, sum_by-append}
use Rattle.std.proofs.lemmas.Str.{length-encode, encodes-chars, scalars-chars}
use Rattle.caja_units.specs.Utf8.{units_of_chars}
use Rattle.css_grammar.specs.Refusals.{unit_width, width}

-- a character of one unit, and the two units of any other
one_width : (c : ℕ) → (c < 0xD800) ⊎ (0xE000 ≤ c) → c < 0x1_0000 → unit_width c ≡ len_utf8 c
one_width c (inl h) k = grind (arith, nat_tests)
one_width c (inr h) k = grind (arith, nat_tests)

surrogate_width : (u : ℕ) → 0xD800 ≤ u → u < 0xE000 → unit_width u ≡ 2
surrogate_width u h k = grind (arith, nat_tests)

four : (c : ℕ) → 0x1_0000 ≤ c → len_utf8 c ≡ 4
four c h = grind (arith, nat_tests)

alone : (u : ℕ) → width (u ∷ []) ≡ unit_width u
alone u = let e = sum_by-cons unit_width u [] in omega (arith, e)

one : (c : ℕ) → (c < 0xD800) ⊎ (0xE000 ≤ c) → c < 0x1_0000 → width (encode_utf16 c) ≡ len_utf8 c
one c h k = ap width (one_unit c k) ∙ (alone c ∙ one_width c h k)

two : (c : ℕ) → c < 0x11_0000 → 0x1_0000 ≤ c → width (encode_utf16 c) ≡ len_utf8 c
two c top high =
    let a : unit_width (0xD800 + (c - 0x1_0000) / 0x400) ≡ 2 = surrogate_width (0xD800 + (c - 0x1_0000) / 0x400) (omega arith) (omega arith) in
    let b : unit_width (0xDC00 + (c - 0x1_0000) % 0x400) ≡ 2 = surrogate_width (0xDC00 + (c - 0x1_0000) % 0x400) (omega arith) (omega arith) in
    let e = sum_by-cons unit_width (0xD800 + (c - 0x1_0000) / 0x400) ((0xDC00 + (c - 0x1_0000) % 0x400) ∷ []) in
    let f = alone (0xDC00 + (c - 0x1_0000) % 0x400) in
    let g = four c high in
    let r : width ((0xD800 + (c - 0x1_0000) / 0x400) ∷ (0xDC00 + (c - 0x1_0000) % 0x400) ∷ []) ≡ len_utf8 c = omega (arith, a, b, e, f, g) in
    ap width (two_units c high) ∙ r

char_width : (c : ℕ) → scalar c ≡ true → width (encode_utf16 c) ≡ len_utf8 c
char_width c is = ⊎_elim (λ low. one c (inl low) (omega arith))
    (λ range. ⊎_elim (λ low. one c (inr range.0) low) (λ high. two c range.1 high) (cases_lt c 0x1_0000))
    (scalar_cases c is)

bytes_of : (cs : List ℕ) → all_scalars cs ≡ true → width (units_of_chars cs) ≡ length (encodes cs)
bytes_of [] is = refl
bytes_of (c ∷ cs) is =
    let parts = and_parts (scalar c) (all_scalars cs) is in
    let sum = sum_by-append unit_width (encode_utf16 c) (units_of_chars cs) in
    let first = char_width c parts.0 in
    let bytes = length-encode c in
    let rest = bytes_of cs parts.1 in
    let all = length-append (encode c) (encodes cs) in
    omega (arith, sum, first, bytes, rest, all)

pub units_width : (s : List ℕ) → IsUtf8 s → width (units_of_chars (chars s)) ≡ length s
units_width s good = bytes_of (chars s) (scalars-chars s good) ∙ ap length (encodes-chars s good)
