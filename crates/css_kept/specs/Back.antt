-- When what is kept is read back: what the scope is, and what the rule for URLs may answer.
use Rattle.std.specs.Prelude.{◌≡◌, ℕ, List, [], ◌∷◌, ◌++◌, Bool, true, false, Some}
use Rattle.std.specs.List.{list_all, flat_map}
use Rattle.std.specs.Str.{all_scalars}
use Rattle.caja_units.specs.Utf8.{units_of_chars}
use Rattle.css_grammar.specs.Characters.{Class, class, space, backslash}
use Rattle.css_grammar.specs.Sheets.{Text, Declaration, Rule}
use Rattle.css_grammar.specs.Tokens.{Word}
use Rattle.css_kept.specs.Table.{Answers, is_without}
use Rattle.css_kept.specs.Printed.{between}

-- `#` and a word
abbrev pub IsScope : Text → Type 0
IsScope s = (w : Text) × (s ≡ 35 ∷ w) × Word w

-- neither a line end nor a backslash
abbrev pub is_quotable_class : Class → Bool
is_quotable_class (space true) = false
is_quotable_class backslash = false
is_quotable_class _ = true

abbrev pub is_quotable : ℕ → Bool
is_quotable c = is_quotable_class (class c)

-- the units are those of characters: no surrogate stands alone
abbrev pub OfChars : Text → Type 0
OfChars us = (cs : List ℕ) × (us ≡ units_of_chars cs) × (all_scalars cs ≡ true)

-- what a rule answers for a text without a backslash, as all in a sheet are, is a text of characters, with neither a line end nor a backslash
abbrev pub Quotable : Answers → Type 0
Quotable a = (t u : Text) → is_without 92 t ≡ true → a.for_style t ≡ Some u → (list_all is_quotable u ≡ true) × OfChars u

-- ---- how a sheet is written in units

abbrev pub written_declaration : Declaration → Text
written_declaration d = d.name ++ 58 ∷ between 32 (λ (t : Text). t) d.values

abbrev pub written_rule : Rule → Text
written_rule r = between 44 (λ (t : Text). t) r.selectors ++ 123 ∷ (between 59 written_declaration r.declarations ++ 125 ∷ [])

abbrev pub written : List Rule → Text
written rs = flat_map written_rule rs
