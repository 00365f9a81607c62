-- What is kept of a sheet.
use Rattle.std.specs.Prelude.{List, [], ◌∷◌, ◌++◌, codes, Option, Some, None, if◌then◌else◌}
use Rattle.std.specs.List.{flat_map}
use Rattle.css_grammar.specs.Sheets.{Text, Declaration, Rule}
use Rattle.css_kept.specs.Selectors.{keeps}
use Rattle.css_kept.specs.Table.{Answers, rows, values_in}

-- a selector behind the scope and a space, if it is kept
abbrev pub scoped : Text → Text → List Text
scoped scope s = if keeps s then (scope ++ (codes " " ++ s)) ∷ [] else []

abbrev pub with_values : Text → Option (List Text) → List Declaration
with_values n None = []
with_values n (Some vs) = record { name = n; values = vs } ∷ []

-- a declaration with the values that are kept, if they are
abbrev pub kept_declaration : Answers → Declaration → List Declaration
kept_declaration a d = with_values d.name (values_in rows a d.name d.values)

-- a rule without selectors or declarations is dropped
abbrev pub filled : List Text → List Declaration → List Rule
filled [] ds = []
filled (s ∷ ss) [] = []
filled (s ∷ ss) (d ∷ ds) = record { selectors = s ∷ ss; declarations = d ∷ ds } ∷ []

abbrev pub kept_rule : Answers → Text → Rule → List Rule
kept_rule a scope r = filled (flat_map (scoped scope) r.selectors) (flat_map (kept_declaration a) r.declarations)

-- what is kept of a sheet, behind the scope
abbrev pub cleaned : Answers → Text → List Rule → List Rule
cleaned a scope rs = flat_map (kept_rule a scope) rs
