-- The letters of `important`.
use Rattle.std.specs.Prelude.{◌≡◌, ℕ, ◌+◌, [], ◌∷◌, Option, Some, None, drop}
use Rattle.css_grammar.specs.Tokens.{important}

-- the letter at this place, and those behind it
abbrev pub Splits : Option ℕ → ℕ → Type 0
Splits (Some l) n = drop n important ≡ l ∷ drop (n + 1) important
Splits None n = drop n important ≡ []
