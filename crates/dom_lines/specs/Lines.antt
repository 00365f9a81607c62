-- The line of a change in the log: `dom R append P C`, `dom R remove P C`, `dom R set N NAME T`, `dom R text N T`. R is the root's name, P, C and N are numbers there, NAME and T are literals.
use Rattle.std.specs.Prelude.{ℕ, List, [], ◌∷◌, ◌++◌, get_or, codes}
use Rattle.caja_units.specs.Index.{number_units}
use Rattle.caja_units.specs.Literal.{literal}
use Rattle.caja_units.specs.Utf8.{utf8_of}
use Rattle.node_deeds.specs.declared.told.Change.{Change}
use Rattle.node_deeds.specs.declared.told.Change.TheVariants as c

-- the name of a root, by its number; `?` where there is none
abbrev pub root_name : List (List ℕ) → ℕ → List ℕ
root_name roots r = utf8_of (get_or roots r (codes "?"))

abbrev pub line_end : List ℕ
line_end = 10 ∷ []

-- how a line begins, and what stands behind a space
abbrev pub start : List (List ℕ) → ℕ → List ℕ → List ℕ
start roots r done = codes "dom " ++ root_name roots r ++ done

abbrev pub shown : List ℕ → List ℕ
shown us = codes " " ++ us

abbrev pub change_text : List (List ℕ) → Change → List ℕ
change_text roots (c.Append r p n) = start roots r (codes " append") ++ shown (number_units p) ++ shown (number_units n)
change_text roots (c.Remove r p n) = start roots r (codes " remove") ++ shown (number_units p) ++ shown (number_units n)
change_text roots (c.Set r n name v) = start roots r (codes " set") ++ shown (number_units n) ++ shown (literal name) ++ shown (literal v)
change_text roots (c.Text r n us) = start roots r (codes " text") ++ shown (number_units n) ++ shown (literal us)

abbrev pub change_line : List (List ℕ) → Change → List ℕ
change_line roots x = change_text roots x ++ line_end
