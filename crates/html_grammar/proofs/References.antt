-- Laws of references by their first characters.
use Rattle.std.proofs.Common.{◌≡◌, ℕ, true, false, List, ap, ◌∙◌, drop}
use Rattle.std.specs.Prelude.{if◌then◌else◌}
use Rattle.html_grammar.specs.Characters.{is_digit, is_hex, begins, is}
use Rattle.html_grammar.specs.References.{numbered, named, reference}

pub reference_named : (s : List ℕ) → begins (is 35) s ≡ false → reference s ≡ named s
unfolding reference
reference_named s h = ap (λ b. if b then (if begins (is 120) (drop 1 s) then numbered is_hex 16 3 (drop 2 s) else numbered is_digit 10 2 (drop 1 s)) else named s) h

pub reference_hexadecimal : (s : List ℕ) → begins (is 35) s ≡ true → begins (is 120) (drop 1 s) ≡ true → reference s ≡ numbered is_hex 16 3 (drop 2 s)
unfolding reference
reference_hexadecimal s h k = ap (λ b. if b then (if begins (is 120) (drop 1 s) then numbered is_hex 16 3 (drop 2 s) else numbered is_digit 10 2 (drop 1 s)) else named s) h ∙ ap (λ b. if b then numbered is_hex 16 3 (drop 2 s) else numbered is_digit 10 2 (drop 1 s)) k

pub reference_decimal : (s : List ℕ) → begins (is 35) s ≡ true → begins (is 120) (drop 1 s) ≡ false → reference s ≡ numbered is_digit 10 2 (drop 1 s)
unfolding reference
reference_decimal s h k = ap (λ b. if b then (if begins (is 120) (drop 1 s) then numbered is_hex 16 3 (drop 2 s) else numbered is_digit 10 2 (drop 1 s)) else named s) h ∙ ap (λ b. if b then numbered is_hex 16 3 (drop 2 s) else numbered is_digit 10 2 (drop 1 s)) k
