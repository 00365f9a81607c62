-- A text that is no number up to the most.
use Rattle.std.proofs.Common.{◌≡◌, ℕ, ◌<◌, ◌≤◌, ◌^◌, true, List, [], ◌∷◌, None, Err, length, refl, sym, ◌∙◌, arith, rules}
use Rattle.std.specs.Char.{is_ascii_digit}
use Rattle.std.specs.List.{list_all}
use Rattle.std.specs.Str.Parse.{ParsesUnsigned, digits_value}
use Rattle.std.proofs.lemmas.Bool.{le-leb}
use Rattle.std.proofs.lemmas.Bool.Decides.{nat_tests}
use Rattle.std.proofs.lemmas.Str.Parse.{IsNumeralModel, numerals_by_value, parse_digits}
use Rattle.command_words.specs.Words.{within, number_of}

own : IsNumeralModel (λ ds. list_all is_ascii_digit ds ≡ true) (digits_value 10)
own = numerals_by_value _ (search rules)

-- of a word that has digits alone, and eight at most
number_digits : (most : ℕ) (w : List ℕ) → list_all is_ascii_digit w ≡ true → length w ≤ 8 → number_of most w ≡ within most (digits_value 10 w)
number_digits most w digits short = rw (digits, le-leb (length w) 8 short) refl

within_far : (most n : ℕ) → most < 2 ^ 32 → 2 ^ 32 ≤ n → within most n ≡ None
within_far most n small far = grind (arith, nat_tests)

-- of a text that is no number below 2^32
none_within : (most : ℕ) (w : List ℕ) → most < 2 ^ 32 → ((0 < length w) × (digits_value 10 w < 2 ^ 32) → ⊥) → within most (digits_value 10 w) ≡ None
none_within most [] small none = refl
none_within most (c ∷ cs) small none = within_far most (digits_value 10 (c ∷ cs)) small (grind (arith, none))

pub number_unread : (E : Type 0) (most : ℕ) (w : List ℕ) (e : E) → most < 2 ^ 32 → ParsesUnsigned 32 10 w (Err e) → list_all is_ascii_digit w ≡ true → length w ≤ 8
    → None ≡ number_of most w
number_unread E most w e small parses digits short =
    let none = parse_digits own {E = E} 32 w (Err e) parses digits in sym (number_digits most w digits short ∙ none_within most w small none)
