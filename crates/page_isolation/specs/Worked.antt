-- Pages to be looked at: a module of a group, which has a cell, and a module of the others.
use Rattle.std.specs.Prelude.{ℕ, false, List, [], ◌∷◌, nat_eq, codes}
use Rattle.page_deeds.specs.Deeds.{a_cell, a_result, Grants, to_load, to_call, to_tick}
use Rattle.cajita_tree.specs.Tree as c
use Rattle.cajita_laws.specs.Parts.{Group}
use Rattle.cajita_page.specs.DirectPage.{Deed}

-- the group of the module 0 and the cell 0
abbrev pub the_first : Group
the_first = record { modules = λ m. nat_eq m 0; cells = λ k. nat_eq k 0; roots = λ r. false }

-- a cell is granted, and nothing else
abbrev pub a_cell_alone : ℕ → Grants
a_cell_alone k = (codes "k", a_cell k) ∷ []

-- a module's result is granted, and nothing else
abbrev pub a_result_alone : ℕ → Grants
a_result_alone m = (codes "a", a_result m) ∷ []

-- both modules are loaded, the second with these grants; a key of each is called, of the second this one; and what waits for the first is called
abbrev pub two_modules : c.Tree c.program → c.Tree c.program → Grants → List ℕ → List Deed
two_modules p q gs key = to_load 0 p (a_cell_alone 0) ∷ to_load 1 q gs ∷ to_call 0 0 (codes "f") [] ∷ to_call 1 1 key [] ∷ to_tick 2 0 ∷ []
