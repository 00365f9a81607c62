-- Pages to be looked at: what each module is granted.
use Rattle.std.specs.Prelude.{List, [], ◌∷◌, codes}
use Rattle.page_deeds.specs.Deeds.{a_cell, a_result, a_root, Grants}

abbrev pub nobody_is_granted_anything : List Grants
nobody_is_granted_anything = [] ∷ [] ∷ [] ∷ []

-- two modules with the same cell
abbrev pub a_shared_cell : List Grants
a_shared_cell = ((codes "k", a_cell 0) ∷ []) ∷ ((codes "k", a_cell 0) ∷ []) ∷ []

-- two modules with the same root, and one with another
abbrev pub a_shared_root : List Grants
a_shared_root = ((codes "doc", a_root 0) ∷ []) ∷ ((codes "other", a_root 1) ∷ []) ∷ ((codes "doc", a_root 0) ∷ []) ∷ []

-- the second is granted the result of the first, the third nothing
abbrev pub a_lent_counter : List Grants
a_lent_counter = [] ∷ ((codes "counter", a_result 0) ∷ []) ∷ [] ∷ []

-- each is granted the result of the one before it
abbrev pub a_chain_of_results : List Grants
a_chain_of_results = [] ∷ ((codes "a", a_result 0) ∷ []) ∷ ((codes "b", a_result 1) ∷ []) ∷ ((codes "c", a_result 2) ∷ []) ∷ []

-- the first and the third have a cell each, the fourth has both; the second has a cell alone
abbrev pub two_cells_that_a_module_joins : List Grants
two_cells_that_a_module_joins =
    ((codes "k", a_cell 0) ∷ []) ∷ ((codes "k", a_cell 1) ∷ []) ∷ ((codes "k", a_cell 2) ∷ []) ∷ ((codes "k", a_cell 0) ∷ (codes "l", a_cell 2) ∷ []) ∷ []
