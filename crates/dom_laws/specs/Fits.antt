-- What holds between the objects of a run and what is lent of the document.
use Rattle.std.specs.Prelude.{◌≡◌, ℕ, suc, ◌<◌, ◌≤◌, List, [], ◌∷◌, Some, length}
use Rattle.es3_objects.specs.declared.value.Value.{Value}
use Rattle.es3_objects.specs.declared.value.Class.TheVariants as class
use Rattle.es3_objects.specs.declared.value.Tag.TheVariants as tag
use Rattle.es3_heap.specs.Objects.{Objects}
use Rattle.html_kept.specs.Table.{Answers}
use Rattle.doc_nodes.specs.Rows.{Doc, owner_of}
use Rattle.doc_nodes.specs.Changes.{root_in}
use Rattle.doc_laws.specs.Owned.{Grows}
use Rattle.doc_laws.specs.Reached.{Reached}
use Rattle.dom_facets.specs.Facets.{facet_at}
use Rattle.dom_handlers.specs.declared.kinds.Handler.{Handler}
use Rattle.tamed_dom.specs.declared.methods.NodeMethod.{NodeMethod}
use Rattle.tamed_dom.specs.Lent.{Lent, facet, begun, grown}
use Rattle.tamed_dom.specs.Methods.{node_turn}
use Rattle.dom_laws.specs.Store.{tag_at, class_at, IsOfText, Keeps}

-- an object stands for the node of a root with this number
pub record Stands (h : Objects) (o r k : ℕ) : Type 0 where
  pub name : tag_at h o ≡ tag.Facet r k
  pub node : class_at h o ≡ class.Node

abbrev pub AreOfTexts : Objects → List Handler → Type 0
AreOfTexts h [] = Unit {0}
AreOfTexts h (x ∷ xs) = IsOfText h x.function × AreOfTexts h xs

pub record Fits (h : Objects) (z : Lent) : Type 0 where
  pub doc : Reached z.doc
  -- the object that is kept for a node stands for it
  pub kept : (n o : ℕ) → facet_at z.facets n ≡ Some o → (r : ℕ) × (k : ℕ) × (owner_of z.doc n ≡ Some (r, k)) × Stands h o r k
  -- an object with the name of a node is kept for that node
  pub named : (o r k : ℕ) → tag_at h o ≡ tag.Facet r k → (n : ℕ) × (owner_of z.doc n ≡ Some (r, k)) × (facet_at z.facets n ≡ Some o)
  -- an object of class Node has the name of a node
  pub nodes : (o : ℕ) → class_at h o ≡ class.Node → (r : ℕ) × (k : ℕ) × (tag_at h o ≡ tag.Facet r k)
  -- each node of a root has its object
  pub there : (n r k : ℕ) → owner_of z.doc n ≡ Some (r, k) → (o : ℕ) × (facet_at z.facets n ≡ Some o)
  -- what is called when something happens to a node is a function of a text
  pub handlers : AreOfTexts h z.handlers

-- a node has one object at most, and that is in the store
abbrev pub OneFacet : Type 0
OneFacet = (h : Objects) (z : Lent) (o p r k : ℕ) → Fits h z → tag_at h o ≡ tag.Facet r k → tag_at h p ≡ tag.Facet r k → o ≡ p

abbrev pub FacetsAreThere : Type 0
FacetsAreThere = (h : Objects) (z : Lent) (n o : ℕ) → Fits h z → facet_at z.facets n ≡ Some o → o < length h.list

-- the object of a node of a root has that root and the node's number there as its name: so what is called when something happens to the node gets a node of the same root
abbrev pub FacetIsNamed : Type 0
FacetIsNamed = (h : Objects) (z : Lent) (n r k : ℕ) → Fits h z → owner_of z.doc n ≡ Some (r, k) → tag_at (facet n h z).heap (facet n h z).object ≡ tag.Facet r k

-- asking for it makes none
abbrev pub AskingMakesNone : Type 0
AskingMakesNone = (h : Objects) (z : Lent) (n r k : ℕ) → Fits h z → owner_of z.doc n ≡ Some (r, k) → ((facet n h z).heap ≡ h) × ((facet n h z).lent ≡ z)

-- no object is of class Node, nor has the name of a node
pub record HasNoNodes (h : Objects) : Type 0 where
  pub nodes : (o : ℕ) → class_at h o ≡ class.Node → ⊥
  pub names : (o r k : ℕ) → tag_at h o ≡ tag.Facet r k → ⊥

-- where a page begins
abbrev pub BeginsFit : Type 0
BeginsFit = (h : Objects) (d : Doc) → Reached d → HasNoNodes h → let b = begun (length d.roots) d h in Fits b.heap b.lent

-- asking for the object of a node of a root
abbrev pub FacetKeeps : Type 0
FacetKeeps = (n r k : ℕ) (h : Objects) (z : Lent) → Fits h z → owner_of z.doc n ≡ Some (r, k) → Fits (facet n h z).heap (facet n h z).lent

-- a call of a method, whatever its receiver and its arguments are
abbrev pub MethodKeeps : Type 0
MethodKeeps = (a : Answers) (m : NodeMethod) (by : ℕ) (this : Value) (args : List Value) (h : Objects) (z : Lent) → Fits h z
    → Fits (node_turn a m by this args h z).heap (node_turn a m by this args h z).state

-- what else is done to the document
abbrev pub with_doc : Doc → Lent → Lent
with_doc d z = record { doc = d; facets = z.facets; handlers = z.handlers; change = z.change }

-- a change that makes no node, as an attribute that an event sets
abbrev pub DocumentKeeps : Type 0
DocumentKeeps = (h : Objects) (z : Lent) (d : Doc) → Fits h z → Reached d → Grows z.doc d → length d.rows ≡ length z.doc.rows → Fits h (with_doc d z)

-- a change that makes one node of a root at most, with its object
abbrev pub GrowthKeeps : Type 0
GrowthKeeps = (h : Objects) (z : Lent) (d : Doc) (r : ℕ) → Fits h z → Reached d → Grows z.doc d → length d.rows ≤ suc (length z.doc.rows)
    → (length z.doc.rows < length d.rows → root_in (owner_of d (length z.doc.rows)) ≡ Some r) → let g = grown (length z.doc.rows) h (with_doc d z) in Fits g.heap g.lent

-- what else is done to the store
abbrev pub OthersKeep : Type 0
OthersKeep = (h g : Objects) (z : Lent) → Fits h z → Keeps h g → Fits g z
