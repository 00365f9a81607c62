-- What each change leaves of rows, parents, lists, owners and roots.
use Rattle.std.proofs.Common.{◌≡◌, ◌≢◌, ℕ, zero, suc, ◌+◌, ◌<◌, Bool, true, false, List, [], ◌∷◌, ◌++◌, Option, Some, None, length, cond, nat_eq, slice_get, refl, sym, ap, ◌∙◌, subst, arith, length-append}
use Rattle.std.specs.Prelude.{slice_set}
use Rattle.std.proofs.Math.ListN.{length-set}
use Rattle.std.proofs.Math.Dec.{eqb}
use Rattle.std.proofs.lemmas.Bool.{eqb-true}
use Rattle.html_tree.specs.declared.Attr.{Attr}
use Rattle.doc_nodes.specs.declared.node.Parent.{Parent}
use Rattle.doc_nodes.specs.declared.node.Parent.TheVariants.{Detached, Document, Node}
use Rattle.doc_nodes.specs.declared.node.NewNode.{NewNode}
use Rattle.doc_nodes.specs.Rows.{Row, Doc, row_at, parent_in, children_in, node_in}
use Rattle.doc_nodes.specs.Changes.{edited, edited_row, placed, over, without, listed, with_child, with_parent, left, moved, taken, freed, with_node}
use Rattle.doc_laws.specs.Forest.{one_if, times, list_at, is_list_of}
use Rattle.doc_laws.proofs.Lists.{get_push, get_push_other, get_past, get_set_other, there, apart}

-- the row that is edited, and the others
pub edited-here : (d : Doc) (n : ℕ) (f : Row → Row) (r : Row) → row_at d n ≡ Some r → row_at (edited d n f) n ≡ Some (f r)
edited-here d n f r h = rw h (set_here d.rows n r (f r) h)
  where
    set_here : {X : Type 0} (xs : List X) (i : ℕ) (x y : X) → slice_get xs i ≡ Some x → slice_get (slice_set xs i y) i ≡ Some y
    set_here [] i x y h = cc
    set_here (z ∷ zs) zero x y h = refl
    set_here (z ∷ zs) (suc i) x y h = set_here zs i x y h

pub edited-other : (d : Doc) (n m : ℕ) (f : Row → Row) → m ≢ n → row_at (edited d n f) m ≡ row_at d m
edited-other d n m f ne = at (row_at d n)
  where
    at : (o : Option Row) → row_at (edited_row d n f o) m ≡ row_at d m
    at None = refl
    at (Some r) = get_set_other d.rows m n (f r) ne

-- what the edit keeps of a row is kept of all rows
pub edited-same : {X : Type 0} (part : Option Row → X) (d : Doc) (n m : ℕ) (f : Row → Row) → ((r : Row) → part (Some (f r)) ≡ part (Some r)) → part (row_at (edited d n f) m) ≡ part (row_at d m)
edited-same part d n m f keeps =
    let cases = elim (eqb m n) as (λ b. eqb m n ≡ b → part (row_at (edited d n f) m) ≡ part (row_at d m)) [
      | true ↦ λ same. let e : m ≡ n = eqb-true m n same in subst (λ x. part (row_at (edited d n f) x) ≡ part (row_at d x)) (sym e) (at (row_at d n) refl)
      | false ↦ λ other. ap part (edited-other d n m f (apart m n other))
    ] in cases refl
  where
    at : (o : Option Row) → row_at d n ≡ o → part (row_at (edited d n f) n) ≡ part (row_at d n)
    at None h = rw h (ap part h)
    at (Some r) h = ap part (edited-here d n f r h) ∙ keeps r ∙ sym (ap part h)

-- what stands beside the rows is kept
pub edited-beside : {X : Type 0} (part : Doc → X) (d : Doc) (n : ℕ) (f : Row → Row) → ((rows : List Row) → part (record { rows = rows; top = d.top; owners = d.owners; roots = d.roots }) ≡ part d) → part (edited d n f) ≡ part d
edited-beside part d n f same = at (row_at d n)
  where
    at : (o : Option Row) → part (edited_row d n f o) ≡ part d
    at None = refl
    at (Some r) = same (slice_set d.rows n (f r))

pub edited-length : (d : Doc) (n : ℕ) (f : Row → Row) → length (edited d n f).rows ≡ length d.rows
edited-length d n f = at (row_at d n)
  where
    at : (o : Option Row) → length (edited_row d n f o).rows ≡ length d.rows
    at None = refl
    at (Some r) = length-set d.rows n (f r)

-- owners and roots, and how many rows there are
abbrev pub Same : Doc → Doc → Type 0
Same d e = (e.owners ≡ d.owners) × (e.roots ≡ d.roots) × (length e.rows ≡ length d.rows)

pub same-then : (d e f : Doc) → Same d e → Same e f → Same d f
same-then d e f a b = (b.0 ∙ a.0, b.1 ∙ a.1, b.2 ∙ a.2)

pub same-edited : (d : Doc) (n : ℕ) (f : Row → Row) → Same d (edited d n f)
same-edited d n f = (edited-beside (λ e. e.owners) d n f (λ rows. refl), edited-beside (λ e. e.roots) d n f (λ rows. refl), edited-length d n f)

pub same-left : (from : Parent) (c : ℕ) (d : Doc) → Same d (left from c d)
same-left Detached c d = (refl, refl, refl)
same-left Document c d = (refl, refl, refl)
same-left (Node p) c d = same-edited d p (λ r. over (without c r.children) r)

pub same-listed : (p : Parent) (c : ℕ) (d : Doc) → Same d (listed p c d)
same-listed Detached c d = (refl, refl, refl)
same-listed Document c d = (refl, refl, refl)
same-listed (Node p) c d = same-edited d p (λ r. over (r.children ++ c ∷ []) r)

pub same-freed : (ns : List ℕ) (d : Doc) → Same d (freed ns d)
same-freed [] d = (refl, refl, refl)
same-freed (n ∷ ns) d = same-then d (with_parent n Detached d) (freed ns (with_parent n Detached d)) (same-edited d n (placed Detached)) (same-freed ns (with_parent n Detached d))

-- before c is put under p
abbrev pub lifted : ℕ → ℕ → Doc → Doc
lifted p c d = left (parent_in (row_at d c)) c (with_child p c d)

pub same-lifted : (p c : ℕ) (d : Doc) → Same d (lifted p c d)
same-lifted p c d = same-then d (with_child p c d) (lifted p c d) (same-listed (Node p) c d) (same-left (parent_in (row_at d c)) c (with_child p c d))

pub same-moved : (p c : ℕ) (d : Doc) → Same d (moved p c d)
same-moved p c d = same-then d (lifted p c d) (moved p c d) (same-lifted p c d) (same-edited (lifted p c d) c (placed (Node p)))

pub same-taken : (p c : ℕ) (d : Doc) → Same d (taken p c d)
same-taken p c d = same-then d (left (Node p) c d) (taken p c d) (same-left (Node p) c d) (same-edited (left (Node p) c d) c (placed Detached))

-- where nodes stand
pub left-parents : (from : Parent) (c m : ℕ) (d : Doc) → parent_in (row_at (left from c d) m) ≡ parent_in (row_at d m)
left-parents Detached c m d = refl
left-parents Document c m d = refl
left-parents (Node p) c m d = edited-same parent_in d p m (λ r. over (without c r.children) r) (λ r. refl)

pub listed-parents : (p : Parent) (c m : ℕ) (d : Doc) → parent_in (row_at (listed p c d) m) ≡ parent_in (row_at d m)
listed-parents Detached c m d = refl
listed-parents Document c m d = refl
listed-parents (Node p) c m d = edited-same parent_in d p m (λ r. over (r.children ++ c ∷ []) r) (λ r. refl)

pub placed-here : (n : ℕ) (p : Parent) (d : Doc) → n < length d.rows → parent_in (row_at (with_parent n p d) n) ≡ p
placed-here n p d less = let r = there d.rows n less in ap parent_in (edited-here d n (placed p) r.0 r.1)

pub placed-other : (n m : ℕ) (p : Parent) (d : Doc) → m ≢ n → parent_in (row_at (with_parent n p d) m) ≡ parent_in (row_at d m)
placed-other n m p d ne = ap parent_in (edited-other d n m (placed p) ne)

pub detached-here : (n : ℕ) (d : Doc) → parent_in (row_at (with_parent n Detached d) n) ≡ Detached
detached-here n d = at (row_at d n) refl
  where
    at : (o : Option Row) → row_at d n ≡ o → parent_in (row_at (with_parent n Detached d) n) ≡ Detached
    at None h = rw h (ap parent_in h)
    at (Some r) h = ap parent_in (edited-here d n (placed Detached) r h)

pub lifted-parents : (p c m : ℕ) (d : Doc) → parent_in (row_at (lifted p c d) m) ≡ parent_in (row_at d m)
lifted-parents p c m d = left-parents (parent_in (row_at d c)) c m (with_child p c d) ∙ listed-parents (Node p) c m d

pub moved-here : (p c : ℕ) (d : Doc) → c < length d.rows → parent_in (row_at (moved p c d) c) ≡ Node p
moved-here p c d less = let many = same-lifted p c d in placed-here c (Node p) (lifted p c d) (omega (arith, many.2))

pub moved-other : (p c m : ℕ) (d : Doc) → m ≢ c → parent_in (row_at (moved p c d) m) ≡ parent_in (row_at d m)
moved-other p c m d ne = placed-other c m (Node p) (lifted p c d) ne ∙ lifted-parents p c m d

pub taken-here : (p c : ℕ) (d : Doc) → parent_in (row_at (taken p c d) c) ≡ Detached
taken-here p c d = detached-here c (left (Node p) c d)

pub taken-other : (p c m : ℕ) (d : Doc) → m ≢ c → parent_in (row_at (taken p c d) m) ≡ parent_in (row_at d m)
taken-other p c m d ne = placed-other c m Detached (left (Node p) c d) ne ∙ left-parents (Node p) c m d

abbrev pub fresh : Parent → NewNode → List Attr → Row
fresh p c attrs = record { parent = p; children = []; content = c; attrs = attrs }

pub new-here : (p : Parent) (root : Option ℕ) (c : NewNode) (attrs : List Attr) (d : Doc) → row_at (with_node p root c attrs d) (length d.rows) ≡ Some (fresh p c attrs)
new-here p root c attrs d = get_push d.rows (fresh p c attrs)

pub new-other : (p : Parent) (root : Option ℕ) (c : NewNode) (attrs : List Attr) (d : Doc) (n : ℕ) → n ≢ length d.rows → row_at (with_node p root c attrs d) n ≡ row_at d n
new-other p root c attrs d n ne = get_push_other d.rows n (fresh p c attrs) ne

pub new-length : (p : Parent) (root : Option ℕ) (c : NewNode) (attrs : List Attr) (d : Doc) → length (with_node p root c attrs d).rows ≡ suc (length d.rows)
new-length p root c attrs d = omega (arith, length-append d.rows (fresh p c attrs ∷ []))

pub freed-keeps : (ns : List ℕ) (m : ℕ) (d : Doc) → parent_in (row_at d m) ≡ Detached → parent_in (row_at (freed ns d) m) ≡ Detached
freed-keeps [] m d h = h
freed-keeps (n ∷ ns) m d h =
    let cases = elim (eqb m n) as (λ b. eqb m n ≡ b → parent_in (row_at (with_parent n Detached d) m) ≡ Detached) [
      | true ↦ λ same. subst (λ x. parent_in (row_at (with_parent n Detached d) x) ≡ Detached) (sym (eqb-true m n same)) (detached-here n d)
      | false ↦ λ other. placed-other n m Detached d (apart m n other) ∙ h
    ] in freed-keeps ns m (with_parent n Detached d) (cases refl)

pub freed-in : (ns : List ℕ) (m : ℕ) (d : Doc) → 0 < times m ns → parent_in (row_at (freed ns d) m) ≡ Detached
freed-in [] m d h = absurd (omega arith)
freed-in (n ∷ ns) m d h =
    let cases = elim (nat_eq n m) as (λ b. nat_eq n m ≡ b → 0 < one_if b + times m ns → parent_in (row_at (freed ns (with_parent n Detached d)) m) ≡ Detached) [
      | true ↦ λ same less. freed-keeps ns m (with_parent n Detached d) (subst (λ x. parent_in (row_at (with_parent n Detached d) x) ≡ Detached) (eqb-true n m same) (detached-here n d))
      | false ↦ λ other less. freed-in ns m (with_parent n Detached d) (omega arith)
    ] in cases refl h

pub freed-out : (ns : List ℕ) (m : ℕ) (d : Doc) → times m ns ≡ 0 → parent_in (row_at (freed ns d) m) ≡ parent_in (row_at d m)
freed-out [] m d h = refl
freed-out (n ∷ ns) m d h =
    let cases = elim (nat_eq n m) as (λ b. nat_eq n m ≡ b → one_if b + times m ns ≡ 0 → parent_in (row_at (freed ns (with_parent n Detached d)) m) ≡ parent_in (row_at d m)) [
      | true ↦ λ same none. absurd (omega arith)
      | false ↦ λ other none. freed-out ns m (with_parent n Detached d) (omega arith) ∙ placed-other n m Detached d (λ e. apart n m other (sym e))
    ] in cases refl h

-- lists
abbrev pub with_last : Bool → ℕ → List ℕ → List ℕ
with_last b c xs = cond b (xs ++ c ∷ []) xs

abbrev pub without_if : Bool → ℕ → List ℕ → List ℕ
without_if b c xs = cond b (without c xs) xs

-- a new node under nothing, or under a node that there is
abbrev pub Stands : Doc → Option ℕ → Type 0
Stands d None = Unit {0}
Stands d (Some q) = q < length d.rows

pub list-edited : (d : Doc) (n : ℕ) (f : Row → Row) (q : Parent) → ((r : Row) → (f r).children ≡ r.children) → list_at (edited d n f) q ≡ list_at d q
list-edited d n f Detached keeps = refl
list-edited d n f Document keeps = edited-beside (λ e. e.top) d n f (λ rows. refl)
list-edited d n f (Node m) keeps = edited-same children_in d n m f keeps

pub list-listed : (p : Parent) (c : ℕ) (d : Doc) (q : Parent) → Stands d (node_in p) → list_at (listed p c d) q ≡ with_last (is_list_of q p) c (list_at d q)
list-listed Detached c d Detached w = refl
list-listed Detached c d Document w = refl
list-listed Detached c d (Node q) w = refl
list-listed Document c d Detached w = refl
list-listed Document c d Document w = refl
list-listed Document c d (Node q) w = refl
list-listed (Node p) c d Detached w = refl
list-listed (Node p) c d Document w = edited-beside (λ e. e.top) d p (λ r. over (r.children ++ c ∷ []) r) (λ rows. refl)
list-listed (Node p) c d (Node q) w =
    let f : Row → Row = λ r. over (r.children ++ c ∷ []) r in
    let cases = elim (nat_eq q p) as (λ b. nat_eq q p ≡ b → children_in (row_at (edited d p f) q) ≡ with_last b c (children_in (row_at d q))) [
      | true ↦ λ same.
          let r = there d.rows p w in
          let here : children_in (row_at (edited d p f) p) ≡ children_in (row_at d p) ++ c ∷ [] = ap children_in (edited-here d p f r.0 r.1) ∙ ap (λ o. children_in o ++ c ∷ []) (sym r.1) in
          subst (λ x. children_in (row_at (edited d p f) x) ≡ children_in (row_at d x) ++ c ∷ []) (sym (eqb-true q p same)) here
      | false ↦ λ other. ap children_in (edited-other d p q f (apart q p other))
    ] in cases refl

pub list-left : (from : Parent) (c : ℕ) (d : Doc) (q : Parent) → list_at (left from c d) q ≡ without_if (is_list_of q from) c (list_at d q)
list-left Detached c d Detached = refl
list-left Detached c d Document = refl
list-left Detached c d (Node q) = refl
list-left Document c d Detached = refl
list-left Document c d Document = refl
list-left Document c d (Node q) = refl
list-left (Node p) c d Detached = refl
list-left (Node p) c d Document = edited-beside (λ e. e.top) d p (λ r. over (without c r.children) r) (λ rows. refl)
list-left (Node p) c d (Node q) =
    let f : Row → Row = λ r. over (without c r.children) r in
    let cases = elim (nat_eq q p) as (λ b. nat_eq q p ≡ b → children_in (row_at (edited d p f) q) ≡ without_if b c (children_in (row_at d q))) [
      | true ↦ λ same. subst (λ x. children_in (row_at (edited d p f) x) ≡ without c (children_in (row_at d x))) (sym (eqb-true q p same)) (at (row_at d p) refl)
      | false ↦ λ other. ap children_in (edited-other d p q f (apart q p other))
    ] in cases refl
  where
    at : (o : Option Row) → row_at d p ≡ o → children_in (row_at (edited d p (λ r. over (without c r.children) r)) p) ≡ without c (children_in (row_at d p))
    at None h = rw h (ap children_in h)
    at (Some r) h = ap children_in (edited-here d p (λ r. over (without c r.children) r) r h) ∙ ap (λ o. without c (children_in o)) (sym h)

pub list-over : (n : ℕ) (ns : List ℕ) (d : Doc) (q : Parent) → n < length d.rows → list_at (edited d n (over ns)) q ≡ cond (is_list_of q (Node n)) ns (list_at d q)
list-over n ns d Detached w = refl
list-over n ns d Document w = edited-beside (λ e. e.top) d n (over ns) (λ rows. refl)
list-over n ns d (Node q) w =
    let cases = elim (nat_eq q n) as (λ b. nat_eq q n ≡ b → children_in (row_at (edited d n (over ns)) q) ≡ cond b ns (children_in (row_at d q))) [
      | true ↦ λ same. let r = there d.rows n w in subst (λ x. children_in (row_at (edited d n (over ns)) x) ≡ ns) (sym (eqb-true q n same)) (ap children_in (edited-here d n (over ns) r.0 r.1))
      | false ↦ λ other. ap children_in (edited-other d n q (over ns) (apart q n other))
    ] in cases refl

pub list-freed : (ns : List ℕ) (d : Doc) (q : Parent) → list_at (freed ns d) q ≡ list_at d q
list-freed [] d q = refl
list-freed (n ∷ ns) d q = list-freed ns (with_parent n Detached d) q ∙ list-edited d n (placed Detached) q (λ r. refl)

pub list-new : (p : Parent) (root : Option ℕ) (c : NewNode) (attrs : List Attr) (d : Doc) (q : Parent) → list_at (with_node p root c attrs d) q ≡ list_at d q
list-new p root c attrs d Detached = refl
list-new p root c attrs d Document = refl
list-new p root c attrs d (Node q) =
    let e = with_node p root c attrs d in
    let cases = elim (eqb q (length d.rows)) as (λ b. eqb q (length d.rows) ≡ b → children_in (row_at e q) ≡ children_in (row_at d q)) [
      | true ↦ λ same. subst (λ x. children_in (row_at e x) ≡ children_in (row_at d x)) (sym (eqb-true q (length d.rows) same)) (ap children_in (new-here p root c attrs d) ∙ sym (ap children_in (get_past d.rows)))
      | false ↦ λ other. ap children_in (new-other p root c attrs d q (apart q (length d.rows) other))
    ] in cases refl

pub list-lifted : (p c : ℕ) (d : Doc) (q : Parent) → p < length d.rows → list_at (lifted p c d) q ≡ without_if (is_list_of q (parent_in (row_at d c))) c (with_last (is_list_of q (Node p)) c (list_at d q))
list-lifted p c d q w = list-left (parent_in (row_at d c)) c (with_child p c d) q ∙ ap (without_if (is_list_of q (parent_in (row_at d c))) c) (list-listed (Node p) c d q w)

pub list-moved : (p c : ℕ) (d : Doc) (q : Parent) → p < length d.rows → list_at (moved p c d) q ≡ without_if (is_list_of q (parent_in (row_at d c))) c (with_last (is_list_of q (Node p)) c (list_at d q))
list-moved p c d q w = list-edited (lifted p c d) c (placed (Node p)) q (λ r. refl) ∙ list-lifted p c d q w

pub list-taken : (p c : ℕ) (d : Doc) (q : Parent) → list_at (taken p c d) q ≡ without_if (is_list_of q (Node p)) c (list_at d q)
list-taken p c d q = list-edited (left (Node p) c d) c (placed Detached) q (λ r. refl) ∙ list-left (Node p) c d q
