-- Changes of nodes: each parent and each child stays among the nodes, and there is one node more at most.
use Rattle.std.proofs.Common.{◌≡◌, ℕ, zero, suc, ◌≤◌, ◌<◌, Bool, true, false, List, [], ◌∷◌, ◌++◌, length, Option, Some, None, cond, refl, sym, ◌∙◌, subst, ◌⊎◌, inl, inr, arith}
use Rattle.std.specs.Prelude.{nat_eq, nat_lt, slice_set}
use Rattle.std.proofs.lemmas.Bool.Decides.{nat_tests}
use Rattle.std.proofs.lemmas.List.{length-append, length-set}
use Rattle.rows.specs.Branches.{parents, around}
use Rattle.rows.specs.Document as doc
use Rattle.rows.specs.Document.{Node, node_at, Change, with_children, with_parent, without, detached, all_detached, attached, text_node, all_of, at_and_below, of_parent, below}
use Rattle.row_simulation.specs.RowLaw.{AreBelow, IsBelow, AreWithin}

pub by_less : (k n : ℕ) (P : Bool → Type 0) → (k < n → P true) → P false → P (nat_lt k n)
by_less k n P less other = elim (nat_lt k n) as (λ b. nat_lt k n ≡ b → P b) [
  | true ↦ λ e. less (grind (arith, nat_tests))
  | false ↦ λ e. other
] refl

pub less_is : (k n : ℕ) → k < n → nat_lt k n ≡ true
less_is k n lt = grind (arith, nat_tests)

-- numbers below a bound

below_more : (n m : ℕ) (ks : List ℕ) → n ≤ m → AreBelow n ks → AreBelow m ks
below_more n m [] le a = tt
below_more n m (k ∷ ks) le a = let lt = a.0 in (omega (arith, le, lt), below_more n m ks le a.1)

parent_more : (n m : ℕ) (p : Option ℕ) → n ≤ m → IsBelow n p → IsBelow m p
parent_more n m None le a = tt
parent_more n m (Some k) le a = omega (arith, le, a)

below_append : (n : ℕ) (ks js : List ℕ) → AreBelow n ks → AreBelow n js → AreBelow n (ks ++ js)
below_append n [] js a b = b
below_append n (k ∷ ks) js a b = (a.0, below_append n ks js a.1 b)

below_if : (n : ℕ) (b : Bool) (ks js : List ℕ) → AreBelow n ks → AreBelow n js → AreBelow n (cond b ks js)
below_if n true ks js p q = p
below_if n false ks js p q = q

below_without : (n j : ℕ) (ks : List ℕ) → AreBelow n ks → AreBelow n (without j ks)
below_without n j [] a = tt
below_without n j (k ∷ ks) a = below_if n (nat_eq j k) ks (k ∷ without j ks) a.1 (a.0, below_without n j ks a.1)

-- nodes

pub record IsNodeIn (n : ℕ) (o : Node) : Type 0 where
  pub parent : IsBelow n o.parent
  pub children : AreBelow n o.children

within_more : (n m : ℕ) (os : List Node) → n ≤ m → AreWithin n os → AreWithin m os
within_more n m [] le a = tt
within_more n m (o ∷ os) le a = (parent_more n m o.parent le a.0, below_more n m o.children le a.1, within_more n m os le a.2)

within_append : (n : ℕ) (os ps : List Node) → AreWithin n os → AreWithin n ps → AreWithin n (os ++ ps)
within_append n [] ps a b = b
within_append n (o ∷ os) ps a b = (a.0, a.1, within_append n os ps a.2 b)

within_at : (n : ℕ) (os : List Node) (k : ℕ) → AreWithin n os → IsNodeIn n (node_at os k)
within_at n [] k a = record { parent = tt; children = tt }
within_at n (o ∷ os) zero a = record { parent = a.0; children = a.1 }
within_at n (o ∷ os) (suc k) a = within_at n os k a.2

within_set : (n : ℕ) (os : List Node) (k : ℕ) (o : Node) → IsNodeIn n o → AreWithin n os → AreWithin n (slice_set os k o)
within_set n [] k o i a = tt
within_set n (x ∷ os) zero o i a = (i.parent, i.children, a.2)
within_set n (x ∷ os) (suc k) o i a = (a.0, a.1, within_set n os k o i a.2)

-- as many nodes as before, and all within
record Fits (n : ℕ) (ns ms : List Node) : Type 0 where
  long : length ms ≡ length ns
  within : AreWithin n ms

fits_same : (n : ℕ) (ns : List Node) → AreWithin n ns → Fits n ns ns
fits_same n ns a = record { long = refl; within = a }

fits_then : {n : ℕ} {ns ms os : List Node} → Fits n ns ms → Fits n ms os → Fits n ns os
fits_then p q = record { long = q.long ∙ p.long; within = q.within }

fits_set : (n : ℕ) (ns : List Node) (k : ℕ) (o : Node) → IsNodeIn n o → AreWithin n ns → Fits n ns (slice_set ns k o)
fits_set n ns k o i a = record { long = length-set ns k o; within = within_set n ns k o i a }

-- a node is taken out of its parent, or put into one

fits_detached : (n k : ℕ) (ns : List Node) → AreWithin n ns → Fits n ns (detached k ns)
fits_detached n k ns a = elim (node_at ns k).parent as (λ q. (node_at ns k).parent ≡ q → Fits n ns (detached k ns)) [
  | None ↦ λ e. rw e (fits_same n ns a)
  | Some p ↦ λ e. rw e (let i = within_at n ns p a in
      let one = fits_set n ns p (with_children (without k (node_at ns p).children) (node_at ns p)) (record { parent = i.parent; children = below_without n k (node_at ns p).children i.children }) a in
      let ms = slice_set ns p (with_children (without k (node_at ns p).children) (node_at ns p)) in
      fits_then one (fits_set n ms k (with_parent None (node_at ms k)) (record { parent = tt; children = (within_at n ms k one.within).children }) one.within))
] refl

fits_all_detached : (n : ℕ) (ks : List ℕ) (ns : List Node) → AreWithin n ns → Fits n ns (all_detached ks ns)
fits_all_detached n [] ns a = fits_same n ns a
fits_all_detached n (k ∷ ks) ns a = let one = fits_detached n k ns a in fits_then one (fits_all_detached n ks (detached k ns) one.within)

fits_attached : (n p k : ℕ) (ns : List Node) → p < n → k < n → AreWithin n ns → Fits n ns (attached p k ns)
fits_attached n p k ns lt less a =
    let i = within_at n ns p a in
    let one = fits_set n ns p (with_children ((node_at ns p).children ++ k ∷ []) (node_at ns p)) (record { parent = i.parent; children = below_append n (node_at ns p).children (k ∷ []) i.children (less, tt) }) a in
    let ms = slice_set ns p (with_children ((node_at ns p).children ++ k ∷ []) (node_at ns p)) in
    fits_then one (fits_set n ms k (with_parent (Some p) (node_at ms k)) (record { parent = lt; children = (within_at n ms k one.within).children }) one.within)

-- what a change comes to

pub record IsChange (ns ms : List Node) : Type 0 where
  pub within : AreWithin (length ms) ms
  pub long : (length ms ≡ length ns) ⊎ (length ms ≡ suc (length ns))

fits_change : (ns ms : List Node) → Fits (length ns) ns ms → IsChange ns ms
fits_change ns ms p = record { within = subst (λ n. AreWithin n ms) (sym p.long) p.within; long = inl p.long }

-- one more node, without a parent and without children
more_change : (ns : List Node) (o : Node) → IsNodeIn (suc (length ns)) o → AreWithin (length ns) ns → Fits (suc (length ns)) (ns ++ o ∷ []) (ns ++ o ∷ [])
more_change ns o i a = fits_same (suc (length ns)) (ns ++ o ∷ []) (within_append (suc (length ns)) ns (o ∷ []) (within_more (length ns) (suc (length ns)) ns (omega arith) a) (i.parent, i.children, tt))

one_longer : (ns : List Node) (o : Node) → length (ns ++ o ∷ []) ≡ suc (length ns)
one_longer ns o = let l = length-append ns (o ∷ []) in omega (arith, l)

pub added_fits : (o : Node) → o.parent ≡ None → o.children ≡ [] → (ns : List Node) → AreWithin (length ns) ns → IsChange ns (ns ++ o ∷ [])
added_fits o up empty ns a =
    let i : IsNodeIn (suc (length ns)) o = record { parent = subst (IsBelow (suc (length ns))) (sym up) tt; children = subst (AreBelow (suc (length ns))) (sym empty) tt } in
    record { within = subst (λ n. AreWithin n (ns ++ o ∷ [])) (sym (one_longer ns o)) (more_change ns o i a).within; long = inr (one_longer ns o) }

pub changed_fits : (c : Change) (k : ℕ) (ns : List Node) → AreWithin (length ns) ns → IsChange ns (doc.changed c k ns)
changed_fits c k ns a = by_less k (length ns) (λ b. nat_lt k (length ns) ≡ b → IsChange ns (doc.changed c k ns)) (λ lt e. there c lt e) (λ e. rw e same) refl
  where
    same : IsChange ns ns
    same = fits_change ns ns (fits_same (length ns) ns a)

    node : IsNodeIn (length ns) (node_at ns k)
    node = within_at (length ns) ns k a

    with_new : (us : List ℕ) → k < length ns → IsChange ns (attached k (length ns) (all_detached (node_at ns k).children ns ++ text_node us ∷ []))
    with_new us lt =
        let ms = all_detached (node_at ns k).children ns in
        let out = fits_all_detached (length ns) (node_at ns k).children ns a in
        let more = more_change ms (text_node us) (record { parent = tt; children = tt }) (subst (λ n. AreWithin n ms) (sym out.long) out.within) in
        let long = out.long in
        let l = one_longer ms (text_node us) in
        let put = fits_attached (suc (length ms)) k (length ns) (ms ++ text_node us ∷ []) (omega (arith, lt, long)) (omega (arith, long)) more.within in
        let whole : length (attached k (length ns) (ms ++ text_node us ∷ [])) ≡ suc (length ns) = let q = put.long in omega (arith, q, l, long) in
        record { within = subst (λ n. AreWithin n (attached k (length ns) (ms ++ text_node us ∷ []))) (let q = put.long in omega (arith, q, l)) put.within; long = inr whole }

    there : (c : Change) → k < length ns → nat_lt k (length ns) ≡ true → IsChange ns (doc.changed c k ns)
    there (doc.sets_attribute n v) lt e = rw e (fits_change ns _ (fits_set (length ns) ns k _ (record { parent = node.parent; children = node.children }) a))
    there (doc.sets_text us) lt e = rw e (elim (doc.is_text (node_at ns k)) as (λ b. IsChange ns (cond b (slice_set ns k (doc.with_text us (node_at ns k))) (attached k (length ns) (all_detached (node_at ns k).children ns ++ text_node us ∷ [])))) [
      | true ↦ fits_change ns _ (fits_set (length ns) ns k (doc.with_text us (node_at ns k)) (record { parent = node.parent; children = node.children }) a)
      | false ↦ with_new us lt
    ])
    there (doc.appends c) lt e = rw e (by_less c (length ns) (λ b. IsChange ns (cond b (attached k c (detached c ns)) ns))
        (λ less. let out = fits_detached (length ns) c ns a in fits_change ns _ (fits_then out (fits_attached (length ns) k c (detached c ns) lt less out.within))) same)
    there (doc.removes c) lt e = rw e (fits_change ns _ (fits_detached (length ns) c ns a))

-- those around a node are among the nodes

all_below : (n : ℕ) (f : ℕ → List ℕ) → ((k : ℕ) → k < n → AreBelow n (f k)) → (ks : List ℕ) → AreBelow n ks → AreBelow n (all_of f ks)
all_below n f each [] a = tt
all_below n f each (k ∷ ks) a = below_append n (f k) (all_of f ks) (each k a.0) (all_below n f each ks a.1)

tree_below : (n : ℕ) (ns : List Node) → AreWithin n ns → (d k : ℕ) → k < n → AreBelow n (at_and_below d ns k)
tree_below n ns a zero k lt = tt
tree_below n ns a (suc d) k lt = (lt, all_below n (at_and_below d ns) (λ j less. tree_below n ns a d j less) (node_at ns k).children (within_at n ns k a).children)

parent_below : (n : ℕ) (p : Option ℕ) → IsBelow n p → AreBelow n (of_parent (λ q. q ∷ []) p)
parent_below n None a = tt
parent_below n (Some p) a = (a, tt)

pub around_below : (ns : List Node) (k : ℕ) → AreWithin (length ns) ns → k < length ns → AreBelow (length ns) (around ns k)
around_below ns k a lt =
    let i = within_at (length ns) ns k a in
    below_append (length ns) (parents ns k) ((node_at ns k).children ++ below ns k) (parent_below (length ns) (node_at ns k).parent i.parent)
    (below_append (length ns) (node_at ns k).children (below ns k) i.children (tree_below (length ns) ns a (length ns) k lt))
