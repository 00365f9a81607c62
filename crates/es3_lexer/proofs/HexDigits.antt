-- Escapes by hexadecimal digits: two or four of them are a unit.
use Rattle.std.proofs.Common.{◌≡◌, ℕ, zero, suc, ◌+◌, ◌^◌, ◌≤◌, ◌<◌, ◌&&◌, true, List, [], ◌∷◌, sym, ap, ◌∙◌, arith, length, take, lit≤}
use Rattle.std.specs.Prelude.{if◌then◌else◌}
use Rattle.std.specs.List.{list_all}
use Rattle.std.specs.Char.{digit_value}
use Rattle.std.specs.Str.Parse.{digits_value, AllDigits}
use Rattle.std.proofs.lemmas.Int.Digits.{digits_value-lt}
use Rattle.std.proofs.lemmas.List.{length-take-le}
use Rattle.std.proofs.lemmas.Bool.Decides.{nat_tests}
use Rattle.es3_tokens.proofs.Tests.{and_parts, le_test}
use Rattle.es3_tokens.specs.Characters.{is_hex}
use Rattle.es3_tokens.specs.Texts.{broken, by_digits, closed}

hex_value : (c : ℕ) → is_hex c ≡ true → digit_value c < 16
hex_value c h = grind (arith, nat_tests)

pub hex_digits : (s : List ℕ) → list_all is_hex s ≡ true → AllDigits 16 s
hex_digits [] h = tt
hex_digits (c ∷ s) h = let p = and_parts (is_hex c) (list_all is_hex s) h in (hex_value c p.0, hex_digits s p.1)

small_power : (n : ℕ) → n ≤ 4 → 16 ^ n ≤ 65536
small_power zero le = lit≤ tt
small_power (suc zero) le = lit≤ tt
small_power (suc (suc zero)) le = lit≤ tt
small_power (suc (suc (suc zero))) le = lit≤ tt
small_power (suc (suc (suc (suc zero)))) le = lit≤ tt
small_power (suc (suc (suc (suc (suc n))))) le = absurd (omega arith)

pub hex_small : (n : ℕ) (s : List ℕ) → n ≤ 4 → n ≤ length s → list_all is_hex (take n s) ≡ true → digits_value 16 (take n s) < 65536
hex_small n s few le h =
    let v = digits_value-lt 16 (take n s) (hex_digits (take n s) h) in
    let e : 16 ^ length (take n s) ≡ 16 ^ n = ap (λ k. 16 ^ k) (length-take-le n s le) in
    let p = small_power n few in
    omega (arith, v, e, p)

pub hex_reading : (n v : ℕ) (s : List ℕ) → n ≤ length s → list_all is_hex (take n s) ≡ true → v ≡ digits_value 16 (take n s) → closed (v ∷ []) (n + 1) ≡ by_digits n s
hex_reading n v s le h e =
    ap (λ k. closed (k ∷ []) (n + 1)) e
    ∙ sym (ap (λ b. if b && list_all is_hex (take n s) then closed (digits_value 16 (take n s) ∷ []) (n + 1) else broken) (le_test n (length s) le)
    ∙ ap (λ b. if b then closed (digits_value 16 (take n s) ∷ []) (n + 1) else broken) h)
