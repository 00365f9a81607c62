-- An attribute that is set, as it is seen.
use Rattle.std.proofs.Common.{◌≡◌, ℕ, true, false, List, [], ◌∷◌, Option, Some, Ok, length, cond, refl, sym, ap, ◌∙◌}
use Rattle.std.specs.Prelude.{map, slice_set, nat_lt}
use Rattle.caja_units.specs.Units.{same_units}
use Rattle.html_tree.specs.declared.Attr.{Attr}
use Rattle.doc_nodes.specs.declared.node.DocError.TheVariants.{NoNode}
use Rattle.doc_nodes.specs.declared.node.NewNode.{NewNode}
use Rattle.doc_nodes.specs.declared.node.NewNode.TheVariants.{Element, Text}
use Rattle.doc_nodes.specs.Rows.{Row, Doc, row_at, has, tag_in, tag_in_content}
use Rattle.doc_nodes.specs.Changes.{set_attr, with_value, marked, edited}
use Rattle.doc_laws.specs.Reached.{Reached}
use Rattle.doc_laws.proofs.Changed.{passed}
use Rattle.rows.specs.Document.{Node, node_at, with_attribute, changed, sets_attribute}
use Rattle.doc_views.specs.Seen.{pair_of, pairs_in_content, node_from, nodes_seen, Stands}
use Rattle.doc_views.proofs.Views.{same_units-sym, number_within}
use Rattle.doc_views.proofs.Edited.{edited_node}
use Rattle.doc_views.proofs.Removed.{within_test}

pub pairs_with : (name v : List ℕ) (attrs : List Attr) → map pair_of (with_value name v attrs) ≡ with_attribute name v (map pair_of attrs)
pairs_with name v [] = refl
pairs_with name v (x ∷ attrs) =
    let cases = elim (same_units x.name name) as (λ b. map pair_of (cond b (record { name = x.name; value = v } ∷ attrs) (x ∷ with_value name v attrs)) ≡ cond b ((x.name, v) ∷ map pair_of attrs) ((x.name, x.value) ∷ with_attribute name v (map pair_of attrs))) [
      | true ↦ refl
      | false ↦ ap (λ ps. (x.name, x.value) ∷ ps) (pairs_with name v attrs)
    ] in cases ∙ ap (λ b. cond b ((x.name, v) ∷ map pair_of attrs) ((x.name, x.value) ∷ with_attribute name v (map pair_of attrs))) (same_units-sym x.name name)

abbrev with_pairs : List (List ℕ × List ℕ) → Node → Node
with_pairs ps o = record { tag = o.tag; text = o.text; attributes = ps; parent = o.parent; children = o.children }

-- an element has its attributes
pairs_of : (c : NewNode) (tag : List ℕ) (attrs : List Attr) (name v : List ℕ) → ◌≡◌ {A = Option (List ℕ)} (tag_in_content c) (Some tag) → pairs_in_content c (with_value name v attrs) ≡ with_attribute name v (pairs_in_content c attrs)
pairs_of (Element t) tag attrs name v h = pairs_with name v attrs
pairs_of (Text us) tag attrs name v h = cc

pub set_attr_is_seen : (d e : Doc) (n r k : ℕ) (tag name v : List ℕ) → Reached d → Stands d n r k → ◌≡◌ {A = Option (List ℕ)} (tag_in (row_at d n)) (Some tag) → set_attr n name v d ≡ Ok e
    → nodes_seen e r ≡ changed (sets_attribute name v) k (nodes_seen d r)
set_attr_is_seen d e n r k tag name v a is element h =
    let f : Row → Row = λ x. marked (with_value name v x.attrs) x in
    let g : Node → Node = λ (o : Node). with_pairs (with_attribute name v o.attributes) o in
    let ns = nodes_seen d r in
    let t = passed (has d n) (edited d n f) e NoNode h in
    let yes : nat_lt k (length ns) ≡ true = within_test k (length ns) (number_within d n r k a.owned is) in
    ap (λ x. nodes_seen x r) (sym t.1)
    ∙ edited_node d n r k f g a.owned is (λ x at. ap (λ ps. with_pairs ps (node_from d.owners n (Some x))) (pairs_of x.content tag x.attrs name v (sym (ap tag_in at) ∙ element)))
    ∙ ap (λ b. cond b (slice_set ns k (g (node_at ns k))) ns) (sym yes)
