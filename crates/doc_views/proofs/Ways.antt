-- The ways up within a root: they are no longer than the root has nodes.
use Rattle.std.proofs.Common.{◌≡◌, ℕ, ◌<◌, Bool, true, false, [], Option, Some, None, length, cond, refl, sym, ap, ◌∙◌, arith}
use Rattle.std.specs.Prelude.{map, slice_get}
use Rattle.std.specs.Option.{option_map}
use Rattle.std.proofs.lemmas.List.{length-map}
use Rattle.std.proofs.lemmas.Option.{slice_get-map}
use Rattle.doc_nodes.specs.declared.node.Parent.{Parent}
use Rattle.doc_nodes.specs.declared.node.Parent.TheVariants.{Detached, Node as under_node}
use Rattle.doc_nodes.specs.declared.node.NewNode.TheVariants.{Text}
use Rattle.doc_nodes.specs.Rows.{Row, Doc, parent_in, node_in, owner_of, nodes_of, parent_of, is_granted}
use Rattle.doc_laws.specs.Forest.{Ends, at_top, goes_up, Ways}
use Rattle.doc_laws.specs.Owned.{Owned}
use Rattle.doc_laws.specs.Reached.{Reached}
use Rattle.doc_laws.proofs.Climbs.{Steps, steps_are_few}
use Rattle.node_deeds.specs.Deeds.{lent_parent}
use Rattle.doc_views.specs.Seen.{local, node_seen, nodes_seen, Stands}
use Rattle.doc_views.proofs.Views.{parent_is_seen, number_within}

abbrev place : Option ℕ → Parent
place None = Detached
place (Some p) = under_node p

placed-back : (o : Option ℕ) → node_in (place o) ≡ o
placed-back None = refl
placed-back (Some p) = refl

abbrev row_within : Doc → ℕ → Row
row_within d n = record { parent = place (option_map (local d) (lent_parent d n)); children = []; content = Text []; attrs = [] }

-- the parents within a root, as a document of their own
abbrev pub within : Doc → ℕ → Doc
within d r = record { rows = map (row_within d) (nodes_of d.roots r); top = []; owners = []; roots = [] }

pub within-length : (d : Doc) (r : ℕ) → length (within d r).rows ≡ length (nodes_seen d r)
within-length d r = length-map (nodes_of d.roots r) (row_within d) ∙ sym (length-map (nodes_of d.roots r) (node_seen d))

parent_here : (d : Doc) (n r k : ℕ) → ◌≡◌ {A = Option ℕ} (slice_get (nodes_of d.roots r) k) (Some n) → parent_of (within d r) k ≡ option_map (local d) (lent_parent d n)
parent_here d n r k at =
    ap (λ o. node_in (parent_in o)) (slice_get-map (row_within d) (nodes_of d.roots r) k ∙ ap (option_map (row_within d)) at)
    ∙ placed-back (option_map (local d) (lent_parent d n))

pub within-parent : (d : Doc) (n r k : ℕ) → Owned d → Stands d n r k → parent_of (within d r) k ≡ option_map (local d) (lent_parent d n)
within-parent d n r k o is = parent_here d n r k (o.to n r k is)

none_here : (d : Doc) (r k : ℕ) → ◌≡◌ {A = Option ℕ} (slice_get (nodes_of d.roots r) k) None → ◌≡◌ {A = Option ℕ} (parent_of (within d r) k) None
none_here d r k at = ap (λ o. node_in (parent_in o)) (slice_get-map (row_within d) (nodes_of d.roots r) k ∙ ap (option_map (row_within d)) at)

ends_from : (d : Doc) (r n k : ℕ) → Reached d → Stands d n r k → Ends d n → Ends (within d r) k
ends_from d r n k a is (at_top _ h) = at_top k (within-parent d n r k a.owned is ∙ ap (option_map (local d)) (none (is_granted (owner_of d n))))
  where
    none : (b : Bool) → cond b None (parent_of d n) ≡ None
    none true = refl
    none false = h
ends_from d r n k a is (goes_up _ p h e) =
    let cases = elim (is_granted (owner_of d n)) as (λ b. is_granted (owner_of d n) ≡ b → Ends (within d r) k) [
      | true ↦ λ first. at_top k (within-parent d n r k a.owned is ∙ ap (λ b. option_map (local d) (cond b None (parent_of d n))) first)
      | false ↦ λ lent.
          let up : lent_parent d n ≡ Some p = ap (λ b. cond b None (parent_of d n)) lent ∙ h in
          goes_up k (local d p) (within-parent d n r k a.owned is ∙ ap (option_map (local d)) up) (ends_from d r p (local d p) a (parent_is_seen d n r k p a is up) e)
    ] in cases refl

pub within-ways : (d : Doc) (r : ℕ) → Reached d → Ways (within d r)
within-ways d r a = record {
  ends = λ k. ends k (slice_get (nodes_of d.roots r) k) refl;
  within = λ k q h. inside k q (slice_get (nodes_of d.roots r) k) refl h;
}
  where
    ends : (k : ℕ) (o : Option ℕ) → slice_get (nodes_of d.roots r) k ≡ o → Ends (within d r) k
    ends k None at = at_top k (none_here d r k at)
    ends k (Some n) at = ends_from d r n k a (a.owned.back n r k at) (a.forest.ways.ends n)

    some_parent : (n k q : ℕ) (o : Option ℕ) → Stands d n r k → lent_parent d n ≡ o → ◌≡◌ {A = Option ℕ} (option_map (local d) o) (Some q) → q < length (within d r).rows
    some_parent n k q None is up h = cc
    some_parent n k q (Some p) is up h =
        let same : local d p ≡ q = cc in
        let less = number_within d p r (local d p) a.owned (parent_is_seen d n r k p a is up) in
        omega (arith, less, same, within-length d r)

    inside : (k q : ℕ) (o : Option ℕ) → slice_get (nodes_of d.roots r) k ≡ o → ◌≡◌ {A = Option ℕ} (parent_of (within d r) k) (Some q) → q < length (within d r).rows
    inside k q None at h = absurd (apart_from (parent_of (within d r) k) (none_here d r k at) h)
      where
        apart_from : (o : Option ℕ) → o ≡ None → ◌≡◌ {A = Option ℕ} o (Some q) → ⊥
        apart_from o x y = cc
    inside k q (Some n) at h = some_parent n k q (lent_parent d n) (a.owned.back n r k at) refl (sym (parent_here d n r k at) ∙ h)

-- so many steps go up within a root: fewer than it has nodes
pub few_within : (j : ℕ) (d : Doc) (n r k : ℕ) → Reached d → Stands d n r k → Steps j (within d r) k → j < length (nodes_seen d r)
few_within j d n r k a is steps =
    let less = number_within d n r k a.owned is in
    omega (arith, steps_are_few j (within d r) k (within-ways d r a) (omega (arith, less, within-length d r)) steps, within-length d r)
