-- Sheets that the table lets stand, behind a scope.
use Rattle.std.specs.Prelude.{◌≡◌, List, [], ◌∷◌, ◌++◌, true, Some, codes}
use Rattle.css_grammar.specs.Sheets.{Text, Declaration, Rule}
use Rattle.css_kept.specs.Selectors.{keeps}
use Rattle.css_kept.specs.Table.{Answers, rows, values_in}

abbrev pub Each : {X : Type 0} → (X → Type 0) → List X → Type 0
Each P [] = Unit {0}
Each P (x ∷ xs) = P x × Each P xs

-- the scope, a space, and a selector that is kept
abbrev pub IsScoped : Text → Text → Type 0
IsScoped scope t = (s : Text) × (t ≡ scope ++ (codes " " ++ s)) × (keeps s ≡ true)

-- a property of the table with values that are kept of some values
abbrev pub IsKept : Answers → Declaration → Type 0
IsKept a d = (vs : List Text) × (values_in rows a d.name vs ≡ Some d.values)

abbrev pub IsRule : Answers → Text → Rule → Type 0
IsRule a scope r = Each (IsScoped scope) r.selectors × Each (IsKept a) r.declarations

-- each selector begins with the scope, and each declaration is one of the table
abbrev pub OfTable : Answers → Text → List Rule → Type 0
OfTable a scope rs = Each (IsRule a scope) rs
