-- The cells and roots that items name, and what a renumbering that leaves the items as they are says of them.
use Rattle.std.specs.Prelude.{◌≡◌, ◌≢◌, ℕ, Bool, true, false, List, [], ◌∷◌, ◌++◌}
use Rattle.acts.specs.Laws.{All}
use Rattle.page_deeds.specs.Deeds.{Label, of_click, of_input}
use Rattle.page_deeds.specs.Shown.{Shown, thing, error, Ended, by_return, by_throw, by_nothing}
use Rattle.cajita_meaning.specs.World.{Name, cell_name, facet_name, forward_name}
use Rattle.cajita_meaning.specs.Direct.{Item, made, got, touched, passed, granted, changed_node, ended}
use Rattle.cajita_laws.specs.Parts.{Group}
use Rattle.cell_numbers.specs.Renumbering.{Numbering, Renumbering, items_anew}

-- the cell that a name names, if it does
abbrev pub cells_of : Name → List ℕ
cells_of (cell_name c i) = c ∷ []
cells_of (forward_name m p c i) = c ∷ []
cells_of n = []

-- in what is shown of a value, of the end of a turn
abbrev pub cells_shown : Shown Name → List ℕ
cells_shown (thing s n) = cells_of n
cells_shown (error n name message) = cells_of n
cells_shown v = []

abbrev pub cells_ended : Ended Name → List ℕ
cells_ended (by_return v) = cells_shown v
cells_ended (by_throw v) = cells_shown v
cells_ended by_nothing = []

-- in an item, in several
abbrev pub cells_told : Item → List ℕ
cells_told (made m o) = cells_of o
cells_told (got m h o) = cells_of h ++ cells_of o
cells_told (touched m t o k) = cells_of o
cells_told (passed a b o) = cells_of o
cells_told (granted m o) = cells_of o
cells_told (ended l e) = cells_ended e
cells_told i = []

abbrev pub cells_in : List Item → List ℕ
cells_in [] = []
cells_in (i ∷ z) = cells_told i ++ cells_in z

-- the root of a node's name
abbrev pub roots_of : Name → List ℕ
roots_of (facet_name r k) = r ∷ []
roots_of n = []

abbrev pub roots_shown : Shown Name → List ℕ
roots_shown (thing s n) = roots_of n
roots_shown (error n name message) = roots_of n
roots_shown v = []

abbrev pub roots_ended : Ended Name → List ℕ
roots_ended (by_return v) = roots_shown v
roots_ended (by_throw v) = roots_shown v
roots_ended by_nothing = []

abbrev pub roots_labelled : Label → List ℕ
roots_labelled (of_click k id root) = root ∷ []
roots_labelled (of_input k id root) = root ∷ []
roots_labelled l = []

abbrev pub roots_told : Item → List ℕ
roots_told (made m o) = roots_of o
roots_told (got m h o) = roots_of h ++ roots_of o
roots_told (touched m t o k) = roots_of o
roots_told (passed a b o) = roots_of o
roots_told (granted m o) = roots_of o
roots_told (changed_node r k c) = r ∷ []
roots_told (ended l e) = roots_labelled l ++ roots_ended e
roots_told i = []

abbrev pub roots_in : List Item → List ℕ
roots_in [] = []
roots_in (i ∷ z) = roots_told i ++ roots_in z

-- a renumbering that leaves items as they are moves none of the cells and roots that they name
abbrev pub StaysUnmoved : Type 0
StaysUnmoved = (f : Renumbering) (z : List Item) → items_anew f z ≡ z → All (λ c. f.cells.anew c ≡ c) (cells_in z) × All (λ r. f.roots.anew r ≡ r) (roots_in z)

-- a group's own stay where they are, and the others are moved among themselves
pub record IsApart (mine : ℕ → Bool) (f : Numbering) : Type 0 where
  pub own : (c : ℕ) → mine c ≡ true → f.anew c ≡ c
  pub others : (c : ℕ) → mine (f.anew c) ≡ mine c

pub record KeepsApart (g : Group) (f : Renumbering) : Type 0 where
  pub cells : IsApart g.cells f.cells
  pub roots : IsApart g.roots f.roots

-- for each of the others there is another one, as where a group has finitely many
abbrev pub HasOthers : (ℕ → Bool) → Type 0
HasOthers own = (c : ℕ) → own c ≡ false → (e : ℕ) × (own e ≡ false) × (c ≢ e)

-- items that stay as they are, however the others' are numbered, name the group's cells and roots alone
abbrev pub NamesOwnCells : Type 0
NamesOwnCells = (g : Group) → HasOthers g.cells → (z : List Item) → ((f : Renumbering) → KeepsApart g f → items_anew f z ≡ z) → All (λ c. g.cells c ≡ true) (cells_in z)

abbrev pub NamesOwnRoots : Type 0
NamesOwnRoots = (g : Group) → HasOthers g.roots → (z : List Item) → ((f : Renumbering) → KeepsApart g f → items_anew f z ≡ z) → All (λ r. g.roots r ≡ true) (roots_in z)
