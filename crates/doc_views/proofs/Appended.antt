-- A child that is appended, as it is seen: it leaves where it stood, and stands last under its new parent.
use Rattle.std.proofs.Common.{◌≡◌, ℕ, ◌+◌, ◌<◌, Bool, true, false, List, [], ◌∷◌, ◌++◌, Option, Some, None, Ok, length, cond, refl, sym, ap, ◌∙◌, subst, arith, inl, inr}
use Rattle.std.specs.Prelude.{map, slice_get, slice_set, nat_lt, nat_eq}
use Rattle.std.specs.Option.{option_map}
use Rattle.std.proofs.Math.Dec.{eqb}
use Rattle.std.proofs.lemmas.Bool.{eqb-true}
use Rattle.doc_nodes.specs.declared.node.Parent.{Parent}
use Rattle.doc_nodes.specs.declared.node.Parent.TheVariants.{Detached, Document, Node as under_node}
use Rattle.doc_nodes.specs.Rows.{Row, Doc, row_at, parent_in, node_in, children_in, owner_in, owner_of, nodes_of, same_root, is_granted}
use Rattle.doc_nodes.specs.Changes.{append, append_refused, moved, taken, freed, left, over, placed, with_child, with_parent, without, root_in}
use Rattle.doc_laws.specs.Forest.{times, one_if, is_list_of}
use Rattle.doc_laws.specs.Owned.{Owned}
use Rattle.doc_laws.specs.Reached.{Reached}
use Rattle.doc_laws.proofs.Lists.{apart, flipped, without-here, without-behind}
use Rattle.doc_laws.proofs.Edits.{Same, same-then, same-edited, same-taken, same-moved, edited-same, with_last, without_if, moved-here, moved-other, placed-here, placed-other, listed-parents, taken-other, list-edited, list-listed, list-moved, list-taken}
use Rattle.doc_laws.proofs.Ownership.{owned-same}
use Rattle.doc_laws.proofs.Changed.{allowed}
use Rattle.doc_laws.proofs.Within.{above-of}
use Rattle.rows.specs.Document as doc
use Rattle.rows.specs.Document.{Node, node_at, detached, attached, with_children, changed, appends}
use Rattle.doc_views.specs.Seen.{local, number_at, node_from, node_seen, nodes_seen, Stands}
use Rattle.doc_views.proofs.Lists.{map_same}
use Rattle.doc_views.proofs.Views.{there_in, number_is, at_number, number_within, stands_in}
use Rattle.doc_views.proofs.Edited.{stands-same, with_child_seen, placed_seen}
use Rattle.doc_views.proofs.Grown.{bare, node_alike}
use Rattle.doc_views.proofs.Removed.{taken_seen, within_test}

-- c stands nowhere in the lists
abbrev pub put : ℕ → ℕ → Doc → Doc
put p c d = with_parent c (under_node p) (with_child p c d)

pub same-put : (p c : ℕ) (d : Doc) → Same d (put p c d)
same-put p c d = same-then d (with_child p c d) (put p c d) (same-edited d p (λ r. over (r.children ++ c ∷ []) r)) (same-edited (with_child p c d) c (placed (under_node p)))

pub put_seen : (d : Doc) (p c r k j : ℕ) → Owned d → Stands d p r k → Stands d c r j → is_granted (owner_of d c) ≡ false → nodes_seen (put p c d) r ≡ attached k j (nodes_seen d r)
put_seen d p c r k j o is it lent =
    let g = with_child p c d in
    let s = same-edited d p (λ x. over (x.children ++ c ∷ []) x) in
    let ns = nodes_seen d r in
    let first : nodes_seen g r ≡ slice_set ns k (with_children ((node_at ns k).children ++ j ∷ []) (node_at ns k)) =
    with_child_seen d p c r k o is ∙ ap (λ x. slice_set ns k (with_children ((node_at ns k).children ++ x ∷ []) (node_at ns k))) (number_is d c r j it) in
    let lent_still : is_granted (owner_of g c) ≡ false = ap (λ os. is_granted (owner_in (slice_get os c))) s.0 ∙ lent in
    placed_seen g c r j (under_node p) (owned-same d g s o) (stands-same d g c r j s it) lent_still
    ∙ ap (λ x. slice_set (nodes_seen g r) j (doc.with_parent (Some x) (node_at (nodes_seen g r) j))) (number_is g p r k (stands-same d g p r k s is))
    ∙ ap (λ ys. slice_set ys j (doc.with_parent (Some k) (node_at ys j))) first

-- a list that c leaves before or after it is put last
last_or_first : (c : ℕ) (xs : List ℕ) → 0 < times c xs → without c (xs ++ c ∷ []) ≡ without c xs ++ c ∷ []
last_or_first c [] more = absurd (omega arith)
last_or_first c (x ∷ xs) more =
    let cases = elim (nat_eq c x) as (λ b. nat_eq c x ≡ b → 0 < one_if b + times c xs → without c (x ∷ (xs ++ c ∷ [])) ≡ without c (x ∷ xs) ++ c ∷ []) [
      | true ↦ λ same some. without-here c x (xs ++ c ∷ []) same ∙ ap (λ ys. ys ++ c ∷ []) (sym (without-here c x xs same))
      | false ↦ λ other some. without-behind c x (xs ++ c ∷ []) other ∙ ap (λ ys. x ∷ ys) (last_or_first c xs (omega (arith, some))) ∙ ap (λ ys. ys ++ c ∷ []) (sym (without-behind c x xs other))
    ] in cases refl (subst (λ b. 0 < one_if b + times c xs) (flipped x c) more)

swapped_order : (b a : Bool) (c : ℕ) (xs : List ℕ) → times c xs ≡ one_if b → without_if b c (with_last a c xs) ≡ with_last a c (without_if b c xs)
swapped_order false a c xs h = refl
swapped_order true false c xs h = refl
swapped_order true true c xs h = last_or_first c xs (omega (arith, h))

-- a part of a row that no edit of links changes
pub moved_part : {X : Type 0} (part : Option Row → X) (p c m : ℕ) (d : Doc) → ((ns : List ℕ) (r : Row) → part (Some (over ns r)) ≡ part (Some r)) → ((q : Parent) (r : Row) → part (Some (placed q r)) ≡ part (Some r))
    → part (row_at (moved p c d) m) ≡ part (row_at d m)
moved_part part p c m d lists parents =
    edited-same part (left (parent_in (row_at d c)) c (with_child p c d)) c m (placed (under_node p)) (λ r. parents (under_node p) r)
    ∙ at (parent_in (row_at d c)) (with_child p c d)
    ∙ edited-same part d p m (λ r. over (r.children ++ c ∷ []) r) (λ r. lists (r.children ++ c ∷ []) r)
  where
    at : (from : Parent) (g : Doc) → part (row_at (left from c g) m) ≡ part (row_at g m)
    at Detached g = refl
    at Document g = refl
    at (under_node q) g = edited-same part g q m (λ r. over (without c r.children) r) (λ r. lists (without c r.children) r)

pub taken_part : {X : Type 0} (part : Option Row → X) (p c m : ℕ) (d : Doc) → ((ns : List ℕ) (r : Row) → part (Some (over ns r)) ≡ part (Some r)) → ((q : Parent) (r : Row) → part (Some (placed q r)) ≡ part (Some r))
    → part (row_at (taken p c d) m) ≡ part (row_at d m)
taken_part part p c m d lists parents =
    edited-same part (left (under_node p) c d) c m (placed Detached) (λ r. parents Detached r)
    ∙ edited-same part d p m (λ r. over (without c r.children) r) (λ r. lists (without c r.children) r)

pub put_part : {X : Type 0} (part : Option Row → X) (p c m : ℕ) (d : Doc) → ((ns : List ℕ) (r : Row) → part (Some (over ns r)) ≡ part (Some r)) → ((q : Parent) (r : Row) → part (Some (placed q r)) ≡ part (Some r))
    → part (row_at (put p c d) m) ≡ part (row_at d m)
put_part part p c m d lists parents =
    edited-same part (with_child p c d) c m (placed (under_node p)) (λ r. parents (under_node p) r)
    ∙ edited-same part d p m (λ r. over (r.children ++ c ∷ []) r) (λ r. lists (r.children ++ c ∷ []) r)

pub freed_part : {X : Type 0} (part : Option Row → X) (ns : List ℕ) (m : ℕ) (d : Doc) → ((q : Parent) (r : Row) → part (Some (placed q r)) ≡ part (Some r)) → part (row_at (freed ns d) m) ≡ part (row_at d m)
freed_part part [] m d parents = refl
freed_part part (n ∷ ns) m d parents = freed_part part ns m (with_parent n Detached d) parents ∙ edited-same part d n m (placed Detached) (λ r. parents Detached r)

-- documents of the same owners whose rows tell the same
pub seen_alike : (d e : Doc) (r : ℕ) → e.owners ≡ d.owners → e.roots ≡ d.roots → ((m : ℕ) → bare (row_at e m) ≡ bare (row_at d m)) → ((m : ℕ) → parent_in (row_at e m) ≡ parent_in (row_at d m)) → ((m : ℕ) → children_in (row_at e m) ≡ children_in (row_at d m))
    → nodes_seen e r ≡ nodes_seen d r
seen_alike d e r owners roots same parents children =
    ap (λ rs. map (node_seen e) (nodes_of rs r)) roots
    ∙ map_same (node_seen d) (node_seen e) (nodes_of d.roots r) (λ j m at. ap (λ os. node_from os m (row_at e m)) owners ∙ node_alike d.owners m (row_at d m) (row_at e m) (same m) (parents m) (children m))

-- where c stood under a node, it may leave that one first
moved_alike : (d : Doc) (p c q r : ℕ) → Reached d → p < length d.rows → c < length d.rows → parent_in (row_at d c) ≡ under_node q → nodes_seen (moved p c d) r ≡ nodes_seen (put p c (taken q c d)) r
moved_alike d p c q r a lp lc under = seen_alike e (moved p c d) r (s.0 ∙ sym u.0) (s.1 ∙ sym u.1) what parents children
  where
    t : Doc
    t = taken q c d

    e : Doc
    e = put p c t

    s : Same d (moved p c d)
    s = same-moved p c d

    u : Same d e
    u = same-then d t e (same-taken q c d) (same-put p c t)

    what : (m : ℕ) → bare (row_at (moved p c d) m) ≡ bare (row_at e m)
    what m = moved_part bare p c m d (λ ns x. refl) (λ o x. refl) ∙ sym (put_part bare p c m t (λ ns x. refl) (λ o x. refl) ∙ taken_part bare q c m d (λ ns x. refl) (λ o x. refl))

    there_still : c < length (with_child p c t).rows
    there_still = let more = same-edited t p (λ x. over (x.children ++ c ∷ []) x) in omega (arith, lc, more.2, (same-taken q c d).2)

    parents : (m : ℕ) → parent_in (row_at (moved p c d) m) ≡ parent_in (row_at e m)
    parents m =
        let cases = elim (eqb m c) as (λ b. eqb m c ≡ b → parent_in (row_at (moved p c d) m) ≡ parent_in (row_at e m)) [
          | true ↦ λ same. subst (λ x. parent_in (row_at (moved p c d) x) ≡ parent_in (row_at e x)) (sym (eqb-true m c same)) (moved-here p c d lc ∙ sym (placed-here c (under_node p) (with_child p c t) there_still))
          | false ↦ λ other. let ne = apart m c other in moved-other p c m d ne ∙ sym (placed-other c m (under_node p) (with_child p c t) ne ∙ listed-parents (under_node p) c m t ∙ taken-other q c m d ne)
        ] in cases refl

    children : (m : ℕ) → children_in (row_at (moved p c d) m) ≡ children_in (row_at e m)
    children m =
        let xs = children_in (row_at d m) in
        let once : times c xs ≡ one_if (is_list_of (under_node m) (under_node q)) = a.forest.listed (under_node m) c ∙ ap (λ x. one_if (is_list_of (under_node m) x)) under in
        list-moved p c d (under_node m) lp
        ∙ ap (λ x. without_if (is_list_of (under_node m) x) c (with_last (is_list_of (under_node m) (under_node p)) c xs)) under
        ∙ swapped_order (is_list_of (under_node m) (under_node q)) (is_list_of (under_node m) (under_node p)) c xs once
        ∙ sym (list-edited (with_child p c t) c (placed (under_node p)) (under_node m) (λ x. refl) ∙ list-listed (under_node p) c t (under_node m) (omega (arith, lp, (same-taken q c d).2)) ∙ ap (with_last (is_list_of (under_node m) (under_node p)) c) (list-taken q c d (under_node m)))

pub moved_seen : (d : Doc) (p c r k j : ℕ) → Reached d → Stands d p r k → Stands d c r j → is_granted (owner_of d c) ≡ false → nodes_seen (moved p c d) r ≡ attached k j (detached j (nodes_seen d r))
moved_seen d p c r k j a is it lent = at (parent_in (row_at d c)) refl
  where
    ns : List Node
    ns = nodes_seen d r

    -- nothing is seen above it
    nothing : (x : Parent) → node_in x ≡ None → parent_in (row_at d c) ≡ x → ◌≡◌ {A = Option ℕ} (node_at ns j).parent None
    nothing x none h =
        ap (λ (o : Node). o.parent) (at_number d c r j a.owned it)
        ∙ ap (λ b. option_map (number_at d.owners) (cond b None (node_in (parent_in (row_at d c))))) lent
        ∙ ap (λ y. option_map (number_at d.owners) (node_in y)) h ∙ ap (option_map (number_at d.owners)) none

    stays : (j : ℕ) (ns : List Node) → ◌≡◌ {A = Option ℕ} (node_at ns j).parent None → detached j ns ≡ ns
    stays j ns h = rw h refl

    no_root : same_root (Some (r, j)) None ≡ true → ⊥
    no_root h = cc

    both : (b : Bool) → b ≡ true → b ≡ false → ⊥
    both b x y = cc

    at : (x : Parent) → parent_in (row_at d c) ≡ x → nodes_seen (moved p c d) r ≡ attached k j (detached j ns)
    at Detached h =
        ap (λ x. nodes_seen (with_parent c (under_node p) (left x c (with_child p c d))) r) h
        ∙ put_seen d p c r k j a.owned is it lent
        ∙ ap (attached k j) (sym (stays j ns (nothing Detached refl h)))
    at Document h = elim (a.roots.top c h) [
      | inl same ↦ absurd (no_root (subst (λ o. same_root o None ≡ true) it same))
      | inr alone ↦ absurd (both (is_granted (owner_of d c)) alone.0 lent)
    ]
    at (under_node q) h =
        let above : Stands d q r (local d q) = stands_in d q r (above-of d c q r a h lent (ap root_in it)) in
        let t = taken q c d in
        let s = same-taken q c d in
        moved_alike d p c q r a (there_in d p r k a.owned is) (there_in d c r j a.owned it) h
        ∙ put_seen t p c r k j (owned-same d t s a.owned) (stands-same d t p r k s is) (stands-same d t c r j s it) (ap (λ os. is_granted (owner_in (slice_get os c))) s.0 ∙ lent)
        ∙ ap (attached k j) (taken_seen d q c r (local d q) j a above it lent h)

pub moved_changed : (d : Doc) (p c r k j : ℕ) → Reached d → Stands d p r k → Stands d c r j → is_granted (owner_of d c) ≡ false → nodes_seen (moved p c d) r ≡ changed (appends j) k (nodes_seen d r)
moved_changed d p c r k j a is it lent =
    let ns = nodes_seen d r in
    let one : nat_lt k (length ns) ≡ true = within_test k (length ns) (number_within d p r k a.owned is) in
    let other : nat_lt j (length ns) ≡ true = within_test j (length ns) (number_within d c r j a.owned it) in
    moved_seen d p c r k j a is it lent
    ∙ ap (λ b. cond b (attached k j (detached j ns)) ns) (sym other)
    ∙ ap (λ b. cond b (cond (nat_lt j (length ns)) (attached k j (detached j ns)) ns) ns) (sym one)

pub append_is_seen : (d e : Doc) (p c r k j : ℕ) → Reached d → Stands d p r k → Stands d c r j → is_granted (owner_of d c) ≡ false → append p c d ≡ Ok e → nodes_seen e r ≡ changed (appends j) k (nodes_seen d r)
append_is_seen d e p c r k j a is it lent h =
    let o = allowed (append_refused d p c) (moved p c d) e h in
    ap (λ x. nodes_seen x r) (sym o.1) ∙ moved_changed d p c r k j a is it lent
