-- Two roots never meet: a call of a method at a node of a root stays within it.
use Rattle.std.specs.Prelude.{◌≡◌, ◌≢◌, ℕ, List, [], ◌∷◌, ◌++◌, Some, length, ◌⊎◌}
use Rattle.es3_objects.specs.declared.value.Value.{Value}
use Rattle.es3_objects.specs.declared.value.Value.TheVariants as v
use Rattle.es3_objects.specs.declared.value.Tag.TheVariants as tag
use Rattle.es3_heap.specs.Objects.{Objects}
use Rattle.es3_language.specs.Natives.{Turn, value_reply}
use Rattle.html_kept.specs.Table.{Answers}
use Rattle.doc_nodes.specs.Rows.{Doc, owner_of}
use Rattle.doc_nodes.specs.Changes.{root_in}
use Rattle.doc_laws.specs.Owned.{Grows}
use Rattle.doc_laws.specs.Within.{IsWithin}
use Rattle.node_deeds.specs.declared.told.Change.{Change}
use Rattle.deed_laws.specs.Deeds.{line_root}
use Rattle.dom_facets.specs.Facets.{node_of}
use Rattle.dom_handlers.specs.declared.kinds.Handler.{Handler}
use Rattle.dom_handlers.specs.Handlers.{listening}
use Rattle.tamed_dom.specs.declared.methods.NodeMethod.{NodeMethod}
use Rattle.tamed_dom.specs.Lent.{Lent}
use Rattle.tamed_dom.specs.Methods.{node_turn}
use Rattle.dom_laws.specs.Store.{tag_at}
use Rattle.dom_laws.specs.Fits.{Fits}

-- what is called when something happens to nodes of a root
abbrev pub AreFor : ℕ → Doc → List Handler → Type 0
AreFor r d [] = Unit {0}
AreFor r d (x ∷ xs) = (root_in (owner_of d x.node) ≡ Some r) × AreFor r d xs

pub record StaysWithin (r : ℕ) (h : Objects) (z : Lent) (t : Turn Lent) : Type 0 where
  -- no node goes, and no owner changes
  pub grows : Grows z.doc t.state.doc
  -- all that isn't of this root stays
  pub within : IsWithin r z.doc t.state.doc
  -- the line of the change is of this root
  pub line : (c : Change) → t.state.change ≡ Some c → line_root c ≡ r
  -- what is called when something happens to other nodes stays
  pub handlers : (m : ℕ) → root_in (owner_of z.doc m) ≢ Some r → listening m t.state.handlers ≡ listening m z.handlers
  -- and what is registered behind all others is for a node of this root
  pub registered : (xs : List Handler) × (t.state.handlers ≡ z.handlers ++ xs) × AreFor r z.doc xs
  -- an object that stands for a node did so before; or it is the next one of the store, and stands for the next node, which is of this root
  pub names : (o s k : ℕ) → tag_at t.heap o ≡ tag.Facet s k → (tag_at h o ≡ tag.Facet s k) ⊎ ((s ≡ r) × (o ≡ length h.list) × (owner_of t.state.doc (length z.doc.rows) ≡ Some (s, k)))
  -- a node that is answered is of this root
  pub answer : (o s k : ℕ) → t.reply ≡ value_reply (v.Obj o) → tag_at t.heap o ≡ tag.Facet s k → s ≡ r

abbrev pub MethodsStayWithin : Type 0
MethodsStayWithin = (a : Answers) (m : NodeMethod) (by n r : ℕ) (this : Value) (args : List Value) (h : Objects) (z : Lent) → Fits h z → node_of h z.doc this ≡ Some n → root_in (owner_of z.doc n) ≡ Some r
    → StaysWithin r h z (node_turn a m by this args h z)
