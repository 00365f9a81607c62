-- What holds of each deed at a node of a granted root.
use Rattle.std.specs.Prelude.{◌≡◌, ℕ, ◌<◌, List, [], ◌∷◌, Option, Some, length}
use Rattle.html_kept.specs.Table.{Answers}
use Rattle.doc_nodes.specs.Rows.{Doc, owner_of}
use Rattle.doc_nodes.specs.Changes.{root_in}
use Rattle.doc_laws.specs.Owned.{Grows}
use Rattle.doc_laws.specs.Reached.{Reached}
use Rattle.doc_laws.specs.Within.{IsWithin}
use Rattle.node_deeds.specs.declared.told.Change.{Change}
use Rattle.node_deeds.specs.declared.told.Change.TheVariants as line
use Rattle.node_deeds.specs.declared.deeds.Asked.{Asked}
use Rattle.node_deeds.specs.declared.deeds.Asked.TheVariants as asked
use Rattle.node_deeds.specs.Told.{Told, told_argument, told_node, told_nodes, Deed}
use Rattle.node_deeds.specs.Deeds.{deed}

-- the child that is given with what is asked
abbrev pub children_given : Asked → List ℕ
children_given (asked.AppendChild c) = c ∷ []
children_given (asked.RemoveChild c) = c ∷ []
children_given q = []

-- it is a node of the document
abbrev pub AreThere : Doc → List ℕ → Type 0
AreThere d [] = Unit {0}
AreThere d (n ∷ ns) = (n < length d.rows) × AreThere d ns

-- nodes are of a root
abbrev pub AreOf : ℕ → Doc → List ℕ → Type 0
AreOf r d [] = Unit {0}
AreOf r d (n ∷ ns) = (◌≡◌ {A = Option ℕ} (root_in (owner_of d n)) (Some r)) × AreOf r d ns

-- what is told is of a root: a node, each of several, or the child that was given
abbrev pub IsToldOf : ℕ → Asked → Doc → Told → Type 0
IsToldOf r q d told_argument = (c : ℕ) × (children_given q ≡ c ∷ []) × (◌≡◌ {A = Option ℕ} (root_in (owner_of d c)) (Some r))
IsToldOf r q d (told_node n) = ◌≡◌ {A = Option ℕ} (root_in (owner_of d n)) (Some r)
IsToldOf r q d (told_nodes ns) = AreOf r d ns
IsToldOf r q d t = Unit {0}

-- the root that a line names
abbrev pub line_root : Change → ℕ
line_root (line.Append r p c) = r
line_root (line.Remove r p c) = r
line_root (line.Set r n name v) = r
line_root (line.Text r n us) = r

-- a deed is of a root: what holds of every document that is reached still does, no node goes and no owner changes; all that isn't of the root stays; and what is told is of the root, with the line
pub record IsOfRoot (r : ℕ) (q : Asked) (d : Doc) (e : Deed) : Type 0 where
  pub reached : Reached e.doc
  pub grows : Grows d e.doc
  pub within : IsWithin r d e.doc
  pub told : IsToldOf r q e.doc e.told
  pub line : (c : Change) → e.change ≡ Some c → line_root c ≡ r

abbrev pub DeedsAreOfTheirRoot : Type 0
DeedsAreOfTheirRoot = (a : Answers) (q : Asked) (n r : ℕ) (d : Doc) → Reached d → root_in (owner_of d n) ≡ Some r → AreThere d (children_given q) → IsOfRoot r q d (deed a q n d)
