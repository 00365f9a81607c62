-- What stands in parentheses.
use Rattle.std.specs.Prelude.{◌≡◌, ◌⊎◌, ℕ, Bool, ◌&&◌, List, [], ◌∷◌, ◌++◌, true, Some, not, nat_eq, nat_lt, codes}
use Rattle.std.specs.List.{list_all}
use Rattle.css_grammar.specs.Sheets.{Text}
use Rattle.css_kept.specs.Table.{Answers, link}

-- there was one value, and this is what the rule for URLs answers for the URL in it, in double quotes within `url(..)`
abbrev pub IsAnswer : Answers → List Text → Text → Type 0
IsAnswer a vs w = (v : Text) × (u : Text) × (vs ≡ v ∷ []) × (a.for_style (link v) ≡ Some u) × (w ≡ codes "url(\"" ++ u ++ codes "\")")

-- a unit of ASCII that opens no parenthesis
abbrev pub is_simple : ℕ → Bool
is_simple c = nat_lt c 128 && not (nat_eq c 40)

-- no parenthesis opens in a value, which is of ASCII, or it is such an answer
abbrev pub IsPlain : Answers → List Text → Text → Type 0
IsPlain a vs w = (list_all is_simple w ≡ true) ⊎ IsAnswer a vs w
