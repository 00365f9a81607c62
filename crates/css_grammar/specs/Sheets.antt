-- Sheets. A text is the list of its characters.
use Rattle.std.specs.Prelude.{ℕ, List, [], ◌∷◌, ◌++◌, map}
use Rattle.css_grammar.specs.Characters.{lower}

abbrev pub Text : Type 0
Text = List ℕ

pub record Declaration : Type 0 where
  pub name : Text
  pub values : List Text

pub record Rule : Type 0 where
  pub selectors : List Text
  pub declarations : List Declaration

abbrev pub lowered : Text → Text
lowered w = map lower w

-- a rule that is begun: the rules before it, its selectors, its declarations so far
pub record Body : Type 0 where
  pub rules : List Rule
  pub selectors : List Text
  pub declarations : List Declaration

abbrev pub with_declaration : Body → Text → List Text → Body
with_declaration b n vs = record { rules = b.rules; selectors = b.selectors; declarations = b.declarations ++ record { name = n; values = vs } ∷ [] }

abbrev pub ruled : Body → List Rule
ruled b = b.rules ++ record { selectors = b.selectors; declarations = b.declarations } ∷ []

abbrev pub opened : List Rule → List Text → Text → Body
opened rs ss t = record { rules = rs; selectors = ss ++ t ∷ []; declarations = [] }
