-- An edit of a node of a root, as it is seen among the nodes of the root.
use Rattle.std.proofs.Common.{◌≡◌, ℕ, ◌<◌, true, false, List, [], ◌∷◌, ◌++◌, Option, Some, None, cond, refl, sym, ap, ◌∙◌, subst}
use Rattle.std.specs.Prelude.{map, slice_get, slice_set, nat_eq}
use Rattle.std.specs.Option.{option_map}
use Rattle.std.proofs.Math.Dec.{eqb}
use Rattle.std.proofs.lemmas.Bool.{eqb-true, eq-eqb}
use Rattle.std.proofs.lemmas.List.{map-append}
use Rattle.doc_nodes.specs.declared.node.Parent.{Parent}
use Rattle.doc_nodes.specs.declared.node.Parent.TheVariants.{Node as under_node}
use Rattle.doc_nodes.specs.Rows.{Row, Doc, row_at, node_in, children_in, owner_in, owner_of, nodes_of, is_granted}
use Rattle.doc_nodes.specs.Changes.{edited, over, placed, without, with_child, with_parent, left}
use Rattle.doc_laws.specs.Owned.{Owned}
use Rattle.doc_laws.specs.Forest.{times}
use Rattle.doc_laws.proofs.Lists.{there, apart, not_same, without-here, without-behind}
use Rattle.doc_laws.proofs.Edits.{Same, same-edited, edited-here, edited-other}
use Rattle.deed_laws.proofs.Nodes.{is_there, still_there}
use Rattle.rows.specs.Document as doc
use Rattle.rows.specs.Document.{Node, node_at, with_children}
use Rattle.doc_views.specs.Seen.{number_at, local, node_from, node_seen, nodes_seen, Stands}
use Rattle.doc_views.proofs.Lists.{map_but}
use Rattle.doc_views.proofs.Views.{there_in, at_number, one_place}

-- owners that stay are seen the same
pub stands-same : (d e : Doc) (n r k : ℕ) → Same d e → Stands d n r k → Stands e n r k
stands-same d e n r k s is = ap (λ os. owner_in (slice_get os n)) s.0 ∙ is

-- one node may be seen anew
pub edited_seen : (d : Doc) (n r k : ℕ) (f : Row → Row) → Owned d → Stands d n r k → nodes_seen (edited d n f) r ≡ slice_set (nodes_seen d r) k (node_seen (edited d n f) n)
edited_seen d n r k f o is =
    let e = edited d n f in
    let s = same-edited d n f in
    ap (λ roots. map (node_seen e) (nodes_of roots r)) s.1
    ∙ map_but (node_seen d) (node_seen e) (nodes_of d.roots r) k n (o.to n r k is) (λ j at. one_place d n r k j o is at)
    (λ m ne. ap (λ os. node_from os m (row_at e m)) s.0 ∙ ap (node_from d.owners m) (edited-other d n m f ne))

-- it is made of the row that it was made of
pub edited_node : (d : Doc) (n r k : ℕ) (f : Row → Row) (g : Node → Node) → Owned d → Stands d n r k → ((x : Row) → ◌≡◌ {A = Option Row} (row_at d n) (Some x) → node_from d.owners n (Some (f x)) ≡ g (node_from d.owners n (Some x)))
    → nodes_seen (edited d n f) r ≡ slice_set (nodes_seen d r) k (g (node_at (nodes_seen d r) k))
edited_node d n r k f g o is made =
    let e = edited d n f in
    let x = there d.rows n (there_in d n r k o is) in
    let now : node_seen e n ≡ g (node_at (nodes_seen d r) k) =
    ap (λ os. node_from os n (row_at e n)) (same-edited d n f).0
    ∙ ap (node_from d.owners n) (edited-here d n f x.0 x.1)
    ∙ made x.0 x.1
    ∙ ap (λ y. g (node_from d.owners n y)) (sym x.1)
    ∙ ap g (sym (at_number d n r k o is)) in
    edited_seen d n r k f o is ∙ ap (slice_set (nodes_seen d r) k) now

-- a child more
pub with_child_seen : (d : Doc) (p c r k : ℕ) → Owned d → Stands d p r k
    → nodes_seen (with_child p c d) r ≡ slice_set (nodes_seen d r) k (with_children ((node_at (nodes_seen d r) k).children ++ local d c ∷ []) (node_at (nodes_seen d r) k))
with_child_seen d p c r k o is =
    edited_node d p r k (λ x. over (x.children ++ c ∷ []) x) (λ (y : Node). with_children (y.children ++ local d c ∷ []) y) o is
    (λ x h. ap (λ ks. with_children ks (node_from d.owners p (Some x))) (map-append (number_at d.owners) x.children (c ∷ [])))

-- the numbers of a list without one of them
pub map_without : (f : ℕ → ℕ) (c : ℕ) (xs : List ℕ) → ((m : ℕ) → 0 < times m xs → f m ≡ f c → m ≡ c) → map f (without c xs) ≡ doc.without (f c) (map f xs)
map_without f c [] once = refl
map_without f c (x ∷ xs) once =
    let cases = elim (nat_eq c x) as (λ b. nat_eq c x ≡ b → map f (without c (x ∷ xs)) ≡ cond (nat_eq (f c) (f x)) (map f xs) (f x ∷ doc.without (f c) (map f xs))) [
      | true ↦ λ same.
          let yes : nat_eq (f c) (f x) ≡ true = eq-eqb (f c) (f x) (ap f (eqb-true c x same)) in
          rw yes (ap (map f) (without-here c x xs same))
      | false ↦ λ other.
          let no : nat_eq (f c) (f x) ≡ false = not_same (f c) (f x) (λ e. apart c x other (sym (once x (is_there x xs) (sym e)))) in
          rw no (ap (map f) (without-behind c x xs other) ∙ ap (λ ks. f x ∷ ks) (map_without f c xs (λ m more. once m (still_there m x xs more))))
    ] in cases refl

-- a child fewer
pub left_seen : (d : Doc) (p c r k : ℕ) → Owned d → Stands d p r k → ((m : ℕ) → 0 < times m (children_in (row_at d p)) → local d m ≡ local d c → m ≡ c)
    → nodes_seen (left (under_node p) c d) r ≡ slice_set (nodes_seen d r) k (with_children (doc.without (local d c) (node_at (nodes_seen d r) k).children) (node_at (nodes_seen d r) k))
left_seen d p c r k o is once =
    let e = left (under_node p) c d in
    let f : Row → Row = λ x. over (without c x.children) x in
    let x = there d.rows p (there_in d p r k o is) in
    let fewer : map (local d) (without c x.0.children) ≡ doc.without (local d c) (map (local d) x.0.children) =
    map_without (local d) c x.0.children (λ m more. once m (subst (λ y. 0 < times m (children_in y)) (sym x.1) more)) in
    let seen : node_at (nodes_seen d r) k ≡ node_from d.owners p (Some x.0) = at_number d p r k o is ∙ ap (node_from d.owners p) x.1 in
    let now : node_seen e p ≡ with_children (doc.without (local d c) (node_at (nodes_seen d r) k).children) (node_at (nodes_seen d r) k) =
    ap (λ os. node_from os p (row_at e p)) (same-edited d p f).0
    ∙ ap (node_from d.owners p) (edited-here d p f x.0 x.1)
    ∙ ap (λ ks. with_children ks (node_from d.owners p (Some x.0))) fewer
    ∙ ap (λ (y : Node). with_children (doc.without (local d c) y.children) y) (sym seen) in
    edited_seen d p r k f o is ∙ ap (slice_set (nodes_seen d r) k) now

-- where a node stands that no root begins with
pub placed_seen : (d : Doc) (n r k : ℕ) (p : Parent) → Owned d → Stands d n r k → is_granted (owner_of d n) ≡ false
    → nodes_seen (with_parent n p d) r ≡ slice_set (nodes_seen d r) k (doc.with_parent (option_map (local d) (node_in p)) (node_at (nodes_seen d r) k))
placed_seen d n r k p o is lent =
    edited_node d n r k (placed p) (doc.with_parent (option_map (local d) (node_in p))) o is
    (λ x h. ap (λ b. doc.with_parent (option_map (number_at d.owners) (cond b None (node_in p))) (node_from d.owners n (Some x))) lent)
