-- A change at a node of a granted root leaves all that isn't of this root.
use Rattle.std.proofs.Common.{◌≡◌, ◌≢◌, ℕ, ◌+◌, ◌<◌, ◌≤◌, Bool, true, false, ◌&&◌, List, [], ◌∷◌, ◌++◌, Option, Some, None, Ok, length, nat_eq, refl, sym, ap, ◌∙◌, subst, arith, inl, inr}
use Rattle.std.specs.Prelude.{slice_get}
use Rattle.std.proofs.Math.Dec.{eqb}
use Rattle.std.proofs.lemmas.Bool.{eqb-true}
use Rattle.doc_nodes.specs.declared.node.Parent.{Parent}
use Rattle.doc_nodes.specs.declared.node.Parent.TheVariants.{Detached, Document, Node}
use Rattle.doc_nodes.specs.declared.node.NewNode.{NewNode}
use Rattle.doc_nodes.specs.declared.node.NewNode.TheVariants.{Element, Text}
use Rattle.doc_nodes.specs.declared.node.DocError.TheVariants.{NoNode}
use Rattle.doc_nodes.specs.Rows.{Row, Doc, row_at, has, parent_in, node_in, children_in, owner_of, owner_in, nodes_of, same_root, is_granted}
use Rattle.doc_nodes.specs.Changes.{append, append_refused, moved, with_child, with_parent, left, placed, over, without, remove, taken, is_child, set_attr, with_value, marked, set_text, with_text, filled, holding, edited, create, freed, root_in, with_node}
use Rattle.doc_laws.specs.Forest.{one_if, times, is_list_of}
use Rattle.doc_laws.specs.Owned.{Owned, IsRoot}
use Rattle.doc_laws.specs.Reached.{Reached}
use Rattle.doc_laws.specs.Within.{IsWithin}
use Rattle.doc_laws.proofs.Lists.{apart, not_same}
use Rattle.doc_laws.proofs.Edits.{Same, same-then, same-edited, same-moved, same-taken, same-freed, edited-other, edited-beside, new-other, new-length, list-new, lifted}
use Rattle.doc_laws.proofs.Forests.{with_text_in, swapped, refreshed}
use Rattle.doc_laws.proofs.Ownership.{new-owner, next-root, other_root}
use Rattle.doc_laws.proofs.Changed.{append-tested, allowed, passed, third, child-at}

-- a root that is told twice
pub same_of : (a b : Option (ℕ × ℕ)) (r : ℕ) → same_root a b ≡ true → root_in a ≡ Some r → root_in b ≡ Some r
same_of None b r h is = cc
same_of (Some a) None r h is = cc
same_of (Some a) (Some b) r h is = let one : a.0 ≡ b.0 = eqb-true a.0 b.0 h in ap (λ x. Some x) (sym one) ∙ is

pub back_of : (a b : Option (ℕ × ℕ)) (r : ℕ) → same_root a b ≡ true → root_in b ≡ Some r → root_in a ≡ Some r
back_of None None r h is = is
back_of None (Some b) r h is = cc
back_of (Some a) None r h is = cc
back_of (Some a) (Some b) r h is = let one : a.0 ≡ b.0 = eqb-true a.0 b.0 h in ap (λ x. Some x) one ∙ is

-- what stands under a node of a root is of the root
pub under-of : (d : Doc) (m n r : ℕ) → Reached d → parent_in (row_at d m) ≡ Node n → root_in (owner_of d n) ≡ Some r → root_in (owner_of d m) ≡ Some r
under-of d m n r a under is = elim (a.roots.under m n (ap node_in under)) [
  | inl same ↦ back_of (owner_of d m) (owner_of d n) r same is
  | inr alone ↦ absurd (none_of (owner_of d n) alone.1 is)
]
  where
    none_of : (o : Option (ℕ × ℕ)) → o ≡ None → root_in o ≡ Some r → ⊥
    none_of None h is = cc
    none_of (Some o) h is = cc

-- what a node of a root stands under, where the root doesn't begin with it, is of the root
pub above-of : (d : Doc) (m n r : ℕ) → Reached d → parent_in (row_at d m) ≡ Node n → is_granted (owner_of d m) ≡ false → root_in (owner_of d m) ≡ Some r → root_in (owner_of d n) ≡ Some r
above-of d m n r a under lent is = elim (a.roots.under m n (ap node_in under)) [
  | inl same ↦ same_of (owner_of d m) (owner_of d n) r same is
  | inr alone ↦ absurd (both (is_granted (owner_of d m)) alone.0 lent)
]
  where
    both : (b : Bool) → b ≡ true → b ≡ false → ⊥
    both b x y = cc

-- nor does it stand under the document itself
not-top : (d : Doc) (m r : ℕ) → Reached d → is_granted (owner_of d m) ≡ false → root_in (owner_of d m) ≡ Some r → parent_in (row_at d m) ≡ Document → ⊥
not-top d m r a lent is h = elim (a.roots.top m h) [
  | inl same ↦ none_of (owner_of d m) same is
  | inr alone ↦ both (is_granted (owner_of d m)) alone.0 lent
]
  where
    both : (b : Bool) → b ≡ true → b ≡ false → ⊥
    both b x y = cc

    none_of : (o : Option (ℕ × ℕ)) → same_root o None ≡ true → root_in o ≡ Some r → ⊥
    none_of None h is = cc
    none_of (Some o) h is = cc

-- another node than one of the root
other-node : (d : Doc) (m n r : ℕ) → root_in (owner_of d m) ≢ Some r → root_in (owner_of d n) ≡ Some r → m ≢ n
other-node d m n r ne is e = ne (ap (λ x. root_in (owner_of d x)) e ∙ is)

same-numbers : (d e : Doc) (q : ℕ) → Same d e → nodes_of e.roots q ≡ nodes_of d.roots q
same-numbers d e q s = ap (λ roots. nodes_of roots q) s.1

none-new : (d e : Doc) (m r : ℕ) → Same d e → length d.rows ≤ m → m < length e.rows → root_in (owner_of e m) ≡ Some r
none-new d e m r s old less = absurd (omega (arith, s.2, old, less))

-- the list that c leaves
left-row : (from : Parent) (c m : ℕ) (d : Doc) → from ≢ Node m → row_at (left from c d) m ≡ row_at d m
left-row Detached c m d ne = refl
left-row Document c m d ne = refl
left-row (Node q) c m d ne = edited-other d q m (λ r. over (without c r.children) r) (λ e. ne (ap (λ x. Node x) (sym e)))

left-top : (from : Parent) (c : ℕ) (d : Doc) → (from ≡ Document → ⊥) → (left from c d).top ≡ d.top
left-top Detached c d not_top = refl
left-top Document c d not_top = absurd (not_top refl)
left-top (Node q) c d not_top = edited-beside (λ e. e.top) d q (λ r. over (without c r.children) r) (λ rows. refl)

moved-within : (d : Doc) (p c r : ℕ) → Reached d → root_in (owner_of d p) ≡ Some r → is_granted (owner_of d c) ≡ false → append_refused d p c ≡ None → IsWithin r d (moved p c d)
moved-within d p c r a is lent free =
    let t = append-tested d p c free in
    let child : root_in (owner_of d c) ≡ Some r = same_of (owner_of d p) (owner_of d c) r t.2 is in
    let from = parent_in (row_at d c) in
    let e = with_child p c d in
    record {
      rows = λ m less ne.
          let elsewhere : from ≢ Node m = λ h. ne (above-of d c m r a h lent child) in
          edited-other (lifted p c d) c m (placed (Node p)) (other-node d m c r ne child) ∙ left-row from c m e elsewhere ∙ edited-other d p m (λ r. over (r.children ++ c ∷ []) r) (other-node d m p r ne is);
      top = edited-beside (λ e. e.top) (lifted p c d) c (placed (Node p)) (λ rows. refl) ∙ left-top from c e (λ h. not-top d c r a lent child h) ∙ edited-beside (λ e. e.top) d p (λ r. over (r.children ++ c ∷ []) r) (λ rows. refl);
      numbers = λ q ne. same-numbers d (moved p c d) q (same-moved p c d);
      new = λ m old less. none-new d (moved p c d) m r (same-moved p c d) old less;
    }

pub append-within : (p c r : ℕ) (d e : Doc) → Reached d → root_in (owner_of d p) ≡ Some r → is_granted (owner_of d c) ≡ false → append p c d ≡ Ok e → IsWithin r d e
append-within p c r d e a is lent h = let o = allowed (append_refused d p c) (moved p c d) e h in subst (IsWithin r d) o.1 (moved-within d p c r a is lent o.0)

taken-within : (d : Doc) (p c r : ℕ) → Reached d → root_in (owner_of d p) ≡ Some r → is_child d p c ≡ true → IsWithin r d (taken p c d)
taken-within d p c r a is h =
    let under : parent_in (row_at d c) ≡ Node p = child-at (parent_in (row_at d c)) p h in
    let child : root_in (owner_of d c) ≡ Some r = under-of d c p r a under is in
    let e = left (Node p) c d in
    record {
      rows = λ m less ne. edited-other e c m (placed Detached) (other-node d m c r ne child) ∙ edited-other d p m (λ r. over (without c r.children) r) (other-node d m p r ne is);
      top = edited-beside (λ e. e.top) e c (placed Detached) (λ rows. refl) ∙ edited-beside (λ e. e.top) d p (λ r. over (without c r.children) r) (λ rows. refl);
      numbers = λ q ne. same-numbers d (taken p c d) q (same-taken p c d);
      new = λ m old less. none-new d (taken p c d) m r (same-taken p c d) old less;
    }

pub remove-within : (p c r : ℕ) (d e : Doc) → Reached d → root_in (owner_of d p) ≡ Some r → remove p c d ≡ Ok e → IsWithin r d e
remove-within p c r d e a is h =
    let o = passed (has d p && has d c && is_child d p c) (taken p c d) e NoNode h in
    subst (IsWithin r d) o.1 (taken-within d p c r a is (third (has d p) (has d c) (is_child d p c) o.0))

edited-within : (d : Doc) (n r : ℕ) (g : Row → Row) → root_in (owner_of d n) ≡ Some r → IsWithin r d (edited d n g)
edited-within d n r g is = record {
  rows = λ m less ne. edited-other d n m g (other-node d m n r ne is);
  top = edited-beside (λ e. e.top) d n g (λ rows. refl);
  numbers = λ q ne. same-numbers d (edited d n g) q (same-edited d n g);
  new = λ m old less. none-new d (edited d n g) m r (same-edited d n g) old less;
}

pub set_attr-within : (n r : ℕ) (name v : List ℕ) (d e : Doc) → Reached d → root_in (owner_of d n) ≡ Some r → set_attr n name v d ≡ Ok e → IsWithin r d e
set_attr-within n r name v d e a is h =
    let g : Row → Row = λ r. marked (with_value name v r.attrs) r in
    let o = passed (has d n) (edited d n g) e NoNode h in
    subst (IsWithin r d) o.1 (edited-within d n r g is)

-- a node more
added-numbers : (d : Doc) (root : Option ℕ) (r q : ℕ) (p : Parent) (c : NewNode) → root ≡ Some r → q ≢ r → nodes_of (with_node p root c [] d).roots q ≡ nodes_of d.roots q
added-numbers d None r q p c is ne = refl
added-numbers d (Some x) r q p c is ne = let same : x ≡ r = cc in other_root d.roots x q (length d.rows) (λ e. ne (e ∙ same))

added-within : (p : Parent) (root : Option ℕ) (c : NewNode) (r : ℕ) (d : Doc) → Owned d → root ≡ Some r → IsWithin r d (with_node p root c [] d)
added-within p root c r d o is = record {
  rows = λ m less ne. new-other p root c [] d m (λ e. omega (arith, less, e));
  top = refl;
  numbers = λ q ne. added-numbers d root r q p c is ne;
  new = λ m old less.
      let at : m ≡ length d.rows = omega (arith, old, less, new-length p root c [] d) in
      ap (λ x. root_in (owner_of (with_node p root c [] d) x)) at ∙ ap root_in (new-owner p root c [] d o.many) ∙ next-root d.roots root ∙ is;
}

pub create-within : (r : ℕ) (c : NewNode) (d : Doc) → Reached d → IsRoot d (Some r) → IsWithin r d (create r c d)
create-within r c d a w = added-within Detached (Some r) c r d a.owned refl

freed-row : (ns : List ℕ) (m : ℕ) (d : Doc) → times m ns ≡ 0 → row_at (freed ns d) m ≡ row_at d m
freed-row [] m d h = refl
freed-row (n ∷ ns) m d h =
    let cases = elim (nat_eq n m) as (λ b. nat_eq n m ≡ b → one_if b + times m ns ≡ 0 → row_at (freed ns (with_parent n Detached d)) m ≡ row_at d m) [
      | true ↦ λ same nil. absurd (omega arith)
      | false ↦ λ other nil. freed-row ns m (with_parent n Detached d) (omega arith) ∙ edited-other d n m (placed Detached) (λ e. apart n m other (sym e))
    ] in cases refl h

freed-top : (ns : List ℕ) (d : Doc) → (freed ns d).top ≡ d.top
freed-top [] d = refl
freed-top (n ∷ ns) d = freed-top ns (with_parent n Detached d) ∙ edited-beside (λ e. e.top) d n (placed Detached) (λ rows. refl)

-- a child of n is of n's root
not-child : (d : Doc) (n m r : ℕ) → Reached d → root_in (owner_of d n) ≡ Some r → root_in (owner_of d m) ≢ Some r → times m (children_in (row_at d n)) ≡ 0
not-child d n m r a is ne = at (parent_in (row_at d m)) refl (a.forest.listed (Node n) m)
  where
    at : (x : Parent) → parent_in (row_at d m) ≡ x → times m (children_in (row_at d n)) ≡ one_if (is_list_of (Node n) x) → times m (children_in (row_at d n)) ≡ 0
    at Detached h once = once
    at Document h once = once
    at (Node q) h once =
        let other : nat_eq n q ≡ false = not_same n q (λ e. ne (under-of d m n r a (h ∙ ap (λ x. Node x) (sym e)) is)) in
        once ∙ ap one_if other

refreshed-within : (d : Doc) (n r : ℕ) (us : List ℕ) → Reached d → root_in (owner_of d n) ≡ Some r → IsWithin r d (refreshed n (root_in (owner_of d n)) us d)
refreshed-within d n r us a is =
    let root = root_in (owner_of d n) in
    let e = with_text_in n root us d in
    let g = swapped n root us d in
    let ns = children_in (row_at e n) in
    let added = added-within (Node n) root (Text us) r d a.owned is in
    let same = same-then e g (refreshed n root us d) (same-edited e n (over (length d.rows ∷ []))) (same-freed ns g) in
    record {
      rows = λ m less ne.
          let nil : times m ns ≡ 0 = ap (times m) (list-new (Node n) root (Text us) [] d (Node n)) ∙ not-child d n m r a is ne in
          freed-row ns m g nil ∙ edited-other e n m (over (length d.rows ∷ [])) (other-node d m n r ne is) ∙ added.rows m less ne;
      top = freed-top ns g ∙ edited-beside (λ e. e.top) e n (over (length d.rows ∷ [])) (λ rows. refl);
      numbers = λ q ne. same-numbers e (refreshed n root us d) q same ∙ added.numbers q ne;
      new = λ m old less. ap root_in (ap (λ os. owner_in (slice_get os m)) same.0) ∙ added.new m old (omega (arith, less, same.2));
    }

filled-within : (d : Doc) (n r : ℕ) (us : List ℕ) (c : NewNode) → Reached d → root_in (owner_of d n) ≡ Some r → IsWithin r d (filled n us c d)
filled-within d n r us (Element tag) a is = refreshed-within d n r us a is
filled-within d n r us (Text old) a is = edited-within d n r (holding (Text us)) is

pub set_text-within : (n r : ℕ) (us : List ℕ) (d e : Doc) → Reached d → root_in (owner_of d n) ≡ Some r → set_text n us d ≡ Ok e → IsWithin r d e
set_text-within n r us d e a is h = at (row_at d n) h
  where
    at : (o : Option Row) → with_text n us o d ≡ Ok e → IsWithin r d e
    at None h = cc
    at (Some x) h = let same : filled n us x.content d ≡ e = cc in subst (IsWithin r d) same (filled-within d n r us x.content a is)
