-- When two pages agree on a group of modules: its roots have the same nodes, they do the same with the group, and grant nothing out of it or into it.
use Rattle.std.specs.Prelude.{◌≡◌, ◌⊎◌, ℕ, Bool, true, false, List, [], ◌∷◌}
use Rattle.rows.specs.Document.{Node}
use Rattle.acts.specs.Laws.{All}
use Rattle.page_deeds.specs.Deeds.{Grant, a_cell, a_result, a_plain, a_root, Grants, to_load, owner_of}
use Rattle.cajita_laws.specs.Parts.{Group, owns}
use Rattle.cajita_page.specs.DirectPage.{Deed}

-- what is granted in a deed
abbrev pub grants_in : Deed → Grants
grants_in (to_load m p gs) = gs
grants_in d = []

-- what is granted is the group's (true) or the others' (false): a cell, the result of a module, a root; a plain value is anybody's
abbrev pub IsGrantOf : Bool → Group → Grant → Type 0
IsGrantOf b g (a_cell c) = g.cells c ≡ b
IsGrantOf b g (a_result m) = g.modules m ≡ b
IsGrantOf b g (a_plain v) = Unit {0}
IsGrantOf b g (a_root root) = g.roots root ≡ b

-- a deed is of a module or a root of the group (true) or of another one (false), and so is all that is granted in it
pub record IsDeedOf (b : Bool) (g : Group) (d : Deed) : Type 0 where
  pub by : owns g (owner_of d) ≡ b
  pub grants : All (λ p. IsGrantOf b g p.1) (grants_in d)

-- two deeds agree on the group: they are the same deed, of the group; or neither is of the group, whatever else each of them is
abbrev pub DeedsAgree : Group → Deed → Deed → Type 0
DeedsAgree g d d' = (IsDeedOf true g d × (d ≡ d')) ⊎ (IsDeedOf false g d × IsDeedOf false g d')

-- the deeds of two pages go in pairs that agree
abbrev pub Agrees : Group → List Deed → List Deed → Type 0
Agrees g [] [] = Unit {0}
Agrees g (d ∷ ds) (d' ∷ ds') = DeedsAgree g d d' × Agrees g ds ds'
Agrees g ds ds' = ⊥

-- the nodes of the group's roots are the same
abbrev pub SameNodes : Group → (ℕ → List Node) → (ℕ → List Node) → Type 0
SameNodes g nodes nodes' = (root : ℕ) → g.roots root ≡ true → nodes root ≡ nodes' root
