-- A child that is removed, as it is seen.
use Rattle.std.proofs.Common.{◌≡◌, ℕ, ◌<◌, Bool, true, false, ◌&&◌, List, Option, Some, None, Ok, length, cond, refl, sym, ap, ◌∙◌, arith}
use Rattle.std.specs.Prelude.{slice_get, slice_set, nat_lt}
use Rattle.std.specs.Option.{option_map}
use Rattle.std.proofs.lemmas.Bool.Decides.{nat_tests}
use Rattle.doc_nodes.specs.declared.node.DocError.TheVariants.{NoNode}
use Rattle.doc_nodes.specs.declared.node.Parent.TheVariants.{Detached, Node as under_node}
use Rattle.doc_nodes.specs.Rows.{Doc, row_at, has, parent_in, node_in, children_in, owner_of, is_granted, owner_in}
use Rattle.doc_nodes.specs.Changes.{taken, left, is_child, remove}
use Rattle.doc_laws.specs.Owned.{Owned}
use Rattle.doc_laws.specs.Reached.{Reached}
use Rattle.doc_laws.proofs.Edits.{same-left}
use Rattle.doc_laws.proofs.Ownership.{owned-same}
use Rattle.doc_laws.proofs.Changed.{passed, third, child-at}
use Rattle.rows.specs.Document as doc
use Rattle.rows.specs.Document.{Node, node_at, detached, with_children, changed, removes}
use Rattle.doc_views.specs.Seen.{local, number_at, nodes_seen, Stands}
use Rattle.doc_views.specs.Clear.{IsClear}
use Rattle.doc_views.proofs.Views.{number_is, at_number, number_within, child_in, one_node}
use Rattle.doc_views.proofs.Edited.{stands-same, left_seen, placed_seen}
use Rattle.doc_laws.specs.Forest.{times}

-- what is under a node of a root is no granted root
pub not_first : (d : Doc) (n m r k : ℕ) → IsClear d → Stands d n r k → parent_in (row_at d m) ≡ under_node n → is_granted (owner_of d m) ≡ false
not_first d n m r k clear is under = at (is_granted (owner_of d m)) refl
  where
    none : (o : Option (ℕ × ℕ)) → o ≡ None → o ≡ Some (r, k) → ⊥
    none o a b = cc

    at : (b : Bool) → is_granted (owner_of d m) ≡ b → b ≡ false
    at true granted = absurd (none (owner_of d n) (clear.first m n granted (ap node_in under)) is)
    at false lent = refl

-- two children of a root with one number are one
pub one_child : (d : Doc) (p c r k j m : ℕ) → Reached d → Stands d p r k → Stands d c r j → 0 < times m (children_in (row_at d p)) → local d m ≡ local d c → m ≡ c
one_child d p c r k j m a is it more same =
    let here : Stands d m r (local d m) = child_in d p r k m a is more in
    one_node d m c r (local d m) a.owned here (it ∙ ap (λ x. Some (r, x)) (sym (number_is d c r j it) ∙ sym same))

-- the parent that is seen of a node that no root begins with
pub parent_at : (d : Doc) (c p r j k : ℕ) → Owned d → Stands d c r j → Stands d p r k → is_granted (owner_of d c) ≡ false → parent_in (row_at d c) ≡ under_node p
    → ◌≡◌ {A = Option ℕ} (node_at (nodes_seen d r) j).parent (Some k)
parent_at d c p r j k o it is lent under =
    ap (λ (x : Node). x.parent) (at_number d c r j o it)
    ∙ ap (λ b. option_map (number_at d.owners) (cond b None (node_in (parent_in (row_at d c))))) lent
    ∙ ap (λ q. option_map (number_at d.owners) (node_in q)) under
    ∙ ap (λ x. Some x) (number_is d p r k is)

pub out_of_parent : (j p : ℕ) (ns : List Node) → ◌≡◌ {A = Option ℕ} (node_at ns j).parent (Some p)
    → detached j ns ≡ (let ms = slice_set ns p (with_children (doc.without j (node_at ns p).children) (node_at ns p)) in slice_set ms j (doc.with_parent None (node_at ms j)))
out_of_parent j p ns h = rw h refl

pub taken_seen : (d : Doc) (p c r k j : ℕ) → Reached d → Stands d p r k → Stands d c r j → is_granted (owner_of d c) ≡ false → parent_in (row_at d c) ≡ under_node p → nodes_seen (taken p c d) r ≡ detached j (nodes_seen d r)
taken_seen d p c r k j a is it lent under =
    let g = left (under_node p) c d in
    let s = same-left (under_node p) c d in
    let ns = nodes_seen d r in
    let ms = slice_set ns k (with_children (doc.without j (node_at ns k).children) (node_at ns k)) in
    let first : nodes_seen g r ≡ ms =
    left_seen d p c r k a.owned is (λ m more same. one_child d p c r k j m a is it more same)
    ∙ ap (λ x. slice_set ns k (with_children (doc.without x (node_at ns k).children) (node_at ns k))) (number_is d c r j it) in
    let still : Stands g c r j = stands-same d g c r j s it in
    let lent_still : is_granted (owner_of g c) ≡ false = ap is_granted (ap (λ os. owner_in (slice_get os c)) s.0) ∙ lent in
    placed_seen g c r j Detached (owned-same d g s a.owned) still lent_still
    ∙ ap (λ ys. slice_set ys j (doc.with_parent None (node_at ys j))) first
    ∙ sym (out_of_parent j k ns (parent_at d c p r j k a.owned it is lent under))

pub within_test : (k n : ℕ) → k < n → nat_lt k n ≡ true
within_test k n less = grind (arith, nat_tests)

pub taken_changed : (d : Doc) (p c r k j : ℕ) → Reached d → IsClear d → Stands d p r k → Stands d c r j → is_child d p c ≡ true → nodes_seen (taken p c d) r ≡ changed (removes j) k (nodes_seen d r)
taken_changed d p c r k j a clear is it child =
    let under : parent_in (row_at d c) ≡ under_node p = child-at (parent_in (row_at d c)) p child in
    let yes : nat_lt k (length (nodes_seen d r)) ≡ true = within_test k (length (nodes_seen d r)) (number_within d p r k a.owned is) in
    taken_seen d p c r k j a is it (not_first d p c r k clear is under) under
    ∙ ap (λ b. cond b (detached j (nodes_seen d r)) (nodes_seen d r)) (sym yes)

pub remove_is_seen : (d e : Doc) (p c r k j : ℕ) → Reached d → IsClear d → Stands d p r k → Stands d c r j → remove p c d ≡ Ok e → nodes_seen e r ≡ changed (removes j) k (nodes_seen d r)
remove_is_seen d e p c r k j a clear is it h =
    let t = passed (has d p && has d c && is_child d p c) (taken p c d) e NoNode h in
    ap (λ x. nodes_seen x r) (sym t.1) ∙ taken_changed d p c r k j a clear is it (third (has d p) (has d c) (is_child d p c) t.0)
