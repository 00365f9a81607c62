-- How a sheet is written, in UTF-8.
use Rattle.std.specs.Prelude.{ℕ, List, [], ◌∷◌, ◌++◌, codes}
use Rattle.std.specs.List.{flat_map}
use Rattle.caja_units.specs.Utf8.{utf8_of}
use Rattle.css_grammar.specs.Sheets.{Declaration, Rule}

-- each as f writes it, with this byte between two
abbrev pub between : {X : Type 0} → ℕ → (X → List ℕ) → List X → List ℕ
between c f [] = []
between c f (x ∷ xs) = f x ++ flat_map (λ y. c ∷ f y) xs

-- the property, `:`, and the values with a space between two
abbrev pub printed_declaration : Declaration → List ℕ
printed_declaration d = utf8_of d.name ++ (codes ":" ++ between 32 utf8_of d.values)

-- the selectors with a `,` between two, and in braces the declarations with a `;` between two
abbrev pub printed_rule : Rule → List ℕ
printed_rule r = between 44 utf8_of r.selectors ++ (codes "{" ++ (between 59 printed_declaration r.declarations ++ codes "}"))

abbrev pub printed : List Rule → List ℕ
printed rs = flat_map printed_rule rs
