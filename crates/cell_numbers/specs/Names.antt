-- Cells and roots that have names: a renumbering that takes the numbers of one page to those of another, and deeds that are the same but for these numbers.
use Rattle.std.specs.Prelude.{◌≡◌, ℕ, List, [], ◌∷◌, Some, slice_get}
use Rattle.page_deeds.specs.Deeds.{Grant, a_cell, a_root, Grants, Deed as DeedOf, to_load, to_click, to_input}
use Rattle.rows.specs.Document.{Node}
use Rattle.rows.specs.Nodes.{Rules}
use Rattle.cajita_page.specs.DirectPage.{Deed, direct_page}
use Rattle.cell_numbers.specs.Renumbering.{Numbering, Renumbering, deed_anew, nodes_anew, page_anew}

-- the cell, or the root, of this number has this name
abbrev pub IsNamed : List (List ℕ) → ℕ → List ℕ → Type 0
IsNamed names c name = slice_get names c ≡ Some name

-- no two have one name
abbrev pub AreNamedOnce : List (List ℕ) → Type 0
AreNamedOnce names = (c e : ℕ) (name : List ℕ) → IsNamed names c name → IsNamed names e name → c ≡ e

-- a name that both lists have keeps what it names: the new number of the first list's is the second list's
abbrev pub Joins : List (List ℕ) → List (List ℕ) → Numbering → Type 0
Joins names others f = (c e : ℕ) (name : List ℕ) → IsNamed names c name → IsNamed others e name → f.anew c ≡ e

-- there is a numbering for any two lists
abbrev pub NumbersJoin : Type 0
NumbersJoin = (names others : List (List ℕ)) → AreNamedOnce names → AreNamedOnce others → (f : Numbering) × Joins names others f

-- the names of a page's cells and roots
pub record Listed : Type 0 where
  pub cells : List (List ℕ)
  pub roots : List (List ℕ)

pub record AreListedOnce (a : Listed) : Type 0 where
  pub cells : AreNamedOnce a.cells
  pub roots : AreNamedOnce a.roots

-- of both pages
pub record BothJoin (a b : Listed) (f : Renumbering) : Type 0 where
  pub cells : Joins a.cells b.cells f.cells
  pub roots : Joins a.roots b.roots f.roots

-- two numbers are of one name
abbrev pub SameNumber : List (List ℕ) → List (List ℕ) → ℕ → ℕ → Type 0
SameNumber names others c e = (name : List ℕ) × IsNamed names c name × IsNamed others e name

-- two grants are the same: cells and roots by their names
abbrev pub SameGrant : Listed → Listed → Grant → Grant → Type 0
SameGrant a b (a_cell c) (a_cell e) = SameNumber a.cells b.cells c e
SameGrant a b (a_root r) (a_root s) = SameNumber a.roots b.roots r s
SameGrant a b g h = g ≡ h

-- grants, each under the same name
abbrev pub SameGrants : Listed → Listed → Grants → Grants → Type 0
SameGrants a b [] [] = Unit {0}
SameGrants a b ((x, g) ∷ gs) ((y, h) ∷ hs) = (x ≡ y) × SameGrant a b g h × SameGrants a b gs hs
SameGrants a b gs hs = ⊥

-- two deeds are the same but for the numbers of cells and roots
abbrev pub SameDeed : {P : Type 0} → Listed → Listed → DeedOf P → DeedOf P → Type 0
SameDeed a b (to_load m p gs) (to_load k q hs) = (m ≡ k) × (p ≡ q) × SameGrants a b gs hs
SameDeed a b (to_click k id root n) (to_click i other s j) = (k ≡ i) × (id ≡ other) × SameNumber a.roots b.roots root s × (n ≡ j)
SameDeed a b (to_input k id root n us) (to_input i other s j ws) = (k ≡ i) × (id ≡ other) × SameNumber a.roots b.roots root s × (n ≡ j) × (us ≡ ws)
SameDeed a b d e = d ≡ e

-- and so are the deeds of two pages, one after another
abbrev pub SameDeeds : {P : Type 0} → Listed → Listed → List (DeedOf P) → List (DeedOf P) → Type 0
SameDeeds a b [] [] = Unit {0}
SameDeeds a b (d ∷ ds) (e ∷ es) = SameDeed a b d e × SameDeeds a b ds es
SameDeeds a b ds es = ⊥

-- where a renumbering joins both, the one deed is the other, anew
abbrev pub DeedsJoin : Type 0
DeedsJoin = (a b : Listed) (f : Renumbering) → BothJoin a b f → (d e : Deed) → SameDeed a b d e → deed_anew f d ≡ e

-- two pages whose deeds are the same but for these numbers, and whose roots have the same nodes, do the same, but for these numbers
abbrev pub PagesJoin : Type 0
PagesJoin = (a b : Listed) → AreListedOnce a → AreListedOnce b → (ds es : List Deed) → SameDeeds a b ds es →
    (f : Renumbering) × BothJoin a b f × ((rules : Rules) (nodes : ℕ → List Node) (n : ℕ) → direct_page rules (nodes_anew f nodes) es n ≡ page_anew f (direct_page rules nodes ds n))
