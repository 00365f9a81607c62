-- Owners and the nodes of roots tell the same.
use Rattle.std.proofs.Common.{◌≡◌, ◌≢◌, ℕ, ◌<◌, true, false, inl, inr, List, [], ◌∷◌, ◌++◌, Option, Some, None, length, refl, sym, ap, ◌∙◌, subst, arith, length-append}
use Rattle.std.specs.Prelude.{slice_get}
use Rattle.std.proofs.Math.ListN.{length-set}
use Rattle.std.proofs.Math.Dec.{eqb}
use Rattle.std.proofs.lemmas.Bool.{eqb-true, eq-eqb}
use Rattle.std.proofs.lemmas.Option.{slice_get_within}
use Rattle.doc_nodes.specs.declared.node.Parent.{Parent}
use Rattle.doc_nodes.specs.declared.node.NewNode.{NewNode}
use Rattle.doc_nodes.specs.Rows.{Doc, owner_of, owner_in, node_with, nodes_in, nodes_of, parent_of, parent_in, node_in, same_root, row_at}
use Rattle.doc_nodes.specs.declared.node.Parent.TheVariants.{Document, Node}
use Rattle.doc_nodes.specs.Changes.{with_node, next_owner, with_owned, root_in, moved}
use Rattle.html_tree.specs.declared.Attr.{Attr}
use Rattle.doc_laws.specs.Owned.{Owned, IsRoot, Fits, SameRoots, Grows}
use Rattle.doc_laws.proofs.Lists.{get_push, get_push_other, get_past, get_set, get_set_other, apart, flipped}
use Rattle.doc_laws.specs.Forest.{Ways}
use Rattle.doc_laws.proofs.Edits.{Same, same-moved, moved-here, moved-other, new-here, new-other, new-length, Stands}
use Rattle.doc_laws.proofs.Forests.{Fewer, new-within}

-- a node that has an owner isn't past the last
owned_before : (owners : List (Option (ℕ × ℕ))) (n r k : ℕ) → owner_in (slice_get owners n) ≡ Some (r, k) → n ≢ length owners
owned_before owners n r k is e =
    let none : owner_in (slice_get owners n) ≡ None = ap (λ m. owner_in (slice_get owners m)) e ∙ ap owner_in (get_past owners) in
    cc (none, is)

-- an owner is for good
pub owner_stays : (p : Parent) (root : Option ℕ) (c : NewNode) (attrs : List Attr) (d : Doc) (n r k : ℕ) → owner_of d n ≡ Some (r, k) → owner_of (with_node p root c attrs d) n ≡ Some (r, k)
owner_stays p root c attrs d n r k is = ap owner_in (get_push_other d.owners n (next_owner d.roots root) (owned_before d.owners n r k is)) ∙ is

pair : (a b c d : ℕ) → a ≡ b → c ≡ d → ◌≡◌ {A = Option (ℕ × ℕ)} (Some (a, c)) (Some (b, d))
pair a b c d x y = rw (x, y) refl

same_pair : (o p : ℕ × ℕ) → ◌≡◌ {A = Option (ℕ × ℕ)} (Some o) (Some p) → o ≡ p
same_pair o p h = cc

-- a root's list with a node more
pub next_of : (roots : List (List ℕ)) (q n : ℕ) → q < length roots → nodes_of (with_owned (Some q) n roots) q ≡ nodes_of roots q ++ n ∷ []
next_of roots q n less = ap nodes_in (get_set roots q (nodes_of roots q ++ n ∷ []) less)

pub other_root : (roots : List (List ℕ)) (q r n : ℕ) → r ≢ q → nodes_of (with_owned (Some q) n roots) r ≡ nodes_of roots r
other_root roots q r n ne = ap nodes_in (get_set_other roots r q (nodes_of roots q ++ n ∷ []) ne)

pub node_keeps : (p : Parent) (root : Option ℕ) (c : NewNode) (attrs : List Attr) (d : Doc) → Owned d → IsRoot d root → Owned (with_node p root c attrs d)
node_keeps p None c attrs d o w = record {
  to = λ n r k is.
      let cases = elim (eqb n (length d.owners)) as (λ b. eqb n (length d.owners) ≡ b → node_with d r k ≡ Some n) [
        | true ↦ λ yes.
            let last : owner_in (slice_get (d.owners ++ None ∷ []) n) ≡ None = ap (λ m. owner_in (slice_get (d.owners ++ None ∷ []) m)) (eqb-true n (length d.owners) yes) ∙ ap owner_in (get_push d.owners None) in
            cc (last, is)
        | false ↦ λ other. o.to n r k (sym (ap owner_in (get_push_other d.owners n None (apart n (length d.owners) other))) ∙ is)
      ] in cases refl;
  back = λ n r k is. owner_stays p None c attrs d n r k (o.back n r k is);
  many = omega (arith, o.many, length-append d.owners (None ∷ []), length-append d.rows (record { parent = p; children = []; content = c; attrs = attrs } ∷ []));
}
node_keeps p (Some q) c attrs d o w =
    let new = next_owner d.roots (Some q) in
    let at = length d.rows in
    record {
      to = λ n r k is.
          let cases = elim (eqb n (length d.owners)) as (λ b. eqb n (length d.owners) ≡ b → node_with (with_node p (Some q) c attrs d) r k ≡ Some n) [
            | true ↦ λ yes.
                let e : n ≡ length d.owners = eqb-true n (length d.owners) yes in
                let last : owner_in (slice_get (d.owners ++ new ∷ []) n) ≡ Some (q, length (nodes_of d.roots q)) = ap (λ m. owner_in (slice_get (d.owners ++ new ∷ []) m)) e ∙ ap owner_in (get_push d.owners new) in
                let both : ◌≡◌ {A = Option (ℕ × ℕ)} (Some (q, length (nodes_of d.roots q))) (Some (r, k)) = sym last ∙ is in
                let whole = same_pair (q, length (nodes_of d.roots q)) (r, k) both in
                let one : q ≡ r = ap (λ (o : ℕ × ℕ). o.0) whole in
                let two : length (nodes_of d.roots q) ≡ k = ap (λ (o : ℕ × ℕ). o.1) whole in
                let it : slice_get (nodes_of (with_owned (Some q) at d.roots) q) (length (nodes_of d.roots q)) ≡ Some at = ap (λ ns. slice_get ns (length (nodes_of d.roots q))) (next_of d.roots q at w) ∙ get_push (nodes_of d.roots q) at in
                subst (λ x. slice_get (nodes_of (with_owned (Some q) at d.roots) x) k ≡ Some n) one (subst (λ x. slice_get (nodes_of (with_owned (Some q) at d.roots) q) x ≡ Some n) two (it ∙ ap (λ x. Some x) (sym o.many ∙ sym e)))
            | false ↦ λ other.
                let was = o.to n r k (sym (ap owner_in (get_push_other d.owners n new (apart n (length d.owners) other))) ∙ is) in
                kept q r k n at d.roots w was
          ] in cases refl;
      back = λ n r k is.
          let cases = elim (eqb r q) as (λ b. eqb r q ≡ b → owner_of (with_node p (Some q) c attrs d) n ≡ Some (r, k)) [
            | true ↦ λ yes.
                let e : r ≡ q = eqb-true r q yes in
                let here : slice_get (nodes_of d.roots q ++ at ∷ []) k ≡ Some n = sym (ap (λ ns. slice_get ns k) (ap (nodes_of (with_owned (Some q) at d.roots)) e ∙ next_of d.roots q at w)) ∙ is in
                let inner = elim (eqb k (length (nodes_of d.roots q))) as (λ b. eqb k (length (nodes_of d.roots q)) ≡ b → owner_of (with_node p (Some q) c attrs d) n ≡ Some (r, k)) [
                  | true ↦ λ last.
                      let f : k ≡ length (nodes_of d.roots q) = eqb-true k (length (nodes_of d.roots q)) last in
                      let it : slice_get (nodes_of d.roots q ++ at ∷ []) k ≡ Some at = ap (slice_get (nodes_of d.roots q ++ at ∷ [])) f ∙ get_push (nodes_of d.roots q) at in
                      let same : n ≡ at = cc (here, it) in
                      ap (λ m. owner_in (slice_get (d.owners ++ new ∷ []) m)) (same ∙ sym o.many) ∙ (ap owner_in (get_push d.owners new) ∙ pair q r (length (nodes_of d.roots q)) k (sym e) (sym f))
                  | false ↦ λ before.
                      let was : slice_get (nodes_of d.roots q) k ≡ Some n = sym (get_push_other (nodes_of d.roots q) k at (apart k (length (nodes_of d.roots q)) before)) ∙ here in
                      owner_stays p (Some q) c attrs d n r k (o.back n r k (ap (λ x. slice_get (nodes_of d.roots x) k) e ∙ was))
                ] in inner refl
            | false ↦ λ other. owner_stays p (Some q) c attrs d n r k (o.back n r k (sym (ap (λ ns. slice_get ns k) (other_root d.roots q r at (apart r q other))) ∙ is))
          ] in cases refl;
      many = omega (arith, o.many, length-append d.owners (new ∷ []), length-append d.rows (record { parent = p; children = []; content = c; attrs = attrs } ∷ []));
    }
  where
    kept : (q r k n at : ℕ) (roots : List (List ℕ)) → q < length roots → slice_get (nodes_of roots r) k ≡ Some n → slice_get (nodes_of (with_owned (Some q) at roots) r) k ≡ Some n
    kept q r k n at roots w was =
        let cases = elim (eqb r q) as (λ b. eqb r q ≡ b → slice_get (nodes_of (with_owned (Some q) at roots) r) k ≡ Some n) [
          | true ↦ λ yes.
              let e : r ≡ q = eqb-true r q yes in
              let was' : slice_get (nodes_of roots q) k ≡ Some n = ap (λ x. slice_get (nodes_of roots x) k) (sym e) ∙ was in
              let less : k < length (nodes_of roots q) = slice_get_within (nodes_of roots q) k n was' in
              let ne : k ≢ length (nodes_of roots q) = λ f. omega (arith, f) in
              ap (λ x. slice_get (nodes_of (with_owned (Some q) at roots) x) k) e ∙ (ap (λ ns. slice_get ns k) (next_of roots q at w) ∙ (get_push_other (nodes_of roots q) k at ne ∙ was'))
          | false ↦ λ other. ap (λ ns. slice_get ns k) (other_root roots q r at (apart r q other)) ∙ was
        ] in cases refl

-- owners and roots that stay
pub owned-same : (d e : Doc) → Same d e → Owned d → Owned e
owned-same d e s o = record {
  to = λ n r k is. sym (ap (λ roots. slice_get (nodes_of roots r) k) (sym s.1)) ∙ o.to n r k (ap (λ os. owner_in (slice_get os n)) (sym s.0) ∙ is);
  back = λ n r k is. ap (λ os. owner_in (slice_get os n)) s.0 ∙ o.back n r k (ap (λ roots. slice_get (nodes_of roots r) k) (sym s.1) ∙ is);
  many = ap length s.0 ∙ o.many ∙ sym s.2;
}

pub grows-same : (d e : Doc) → Same d e → Grows d e
grows-same d e s = record { more = omega (arith, s.2); roots = ap length s.1; owners = λ n less. ap (λ os. owner_in (slice_get os n)) s.0 }

pub grows-then : (d e f : Doc) → Grows d e → Grows e f → Grows d f
grows-then d e f a b = record {
  more = omega (arith, a.more, b.more);
  roots = b.roots ∙ a.roots;
  owners = λ n less. b.owners n (omega (arith, less, a.more)) ∙ a.owners n less;
}

owned-length : (root : Option ℕ) (n : ℕ) (roots : List (List ℕ)) → length (with_owned root n roots) ≡ length roots
owned-length None n roots = refl
owned-length (Some q) n roots = length-set roots q (nodes_of roots q ++ n ∷ [])

-- the owner of a new node, and of all others
pub new-owner : (p : Parent) (root : Option ℕ) (c : NewNode) (attrs : List Attr) (d : Doc) → length d.owners ≡ length d.rows → owner_of (with_node p root c attrs d) (length d.rows) ≡ next_owner d.roots root
new-owner p root c attrs d many = ap (λ n. owner_in (slice_get (d.owners ++ next_owner d.roots root ∷ []) n)) (sym many) ∙ ap owner_in (get_push d.owners (next_owner d.roots root))

pub old-owner : (p : Parent) (root : Option ℕ) (c : NewNode) (attrs : List Attr) (d : Doc) (n : ℕ) → length d.owners ≡ length d.rows → n ≢ length d.rows → owner_of (with_node p root c attrs d) n ≡ owner_of d n
old-owner p root c attrs d n many ne = ap owner_in (get_push_other d.owners n (next_owner d.roots root) (λ e. ne (e ∙ many)))

pub grows-new : (p : Parent) (root : Option ℕ) (c : NewNode) (attrs : List Attr) (d : Doc) → length d.owners ≡ length d.rows → Grows d (with_node p root c attrs d)
grows-new p root c attrs d many = record {
  more = omega (arith, new-length p root c attrs d);
  roots = owned-length root (length d.rows) d.roots;
  owners = λ n less. old-owner p root c attrs d n many (λ e. omega (arith, less, e));
}

-- the root of a node is one that there is
pub root-is : (d : Doc) (n : ℕ) → Owned d → IsRoot d (root_in (owner_of d n))
root-is d n o = at (owner_of d n) refl
  where
    within : (roots : List (List ℕ)) (r k : ℕ) (q : Option (List ℕ)) → slice_get roots r ≡ q → slice_get (nodes_in q) k ≡ Some n → r < length roots
    within roots r k None h is = cc
    within roots r k (Some ns) h is = slice_get_within roots r ns h

    at : (q : Option (ℕ × ℕ)) → owner_of d n ≡ q → IsRoot d (root_in q)
    at None h = tt
    at (Some x) h = within d.roots x.0 x.1 (slice_get d.roots x.0) refl (o.to n x.0 x.1 h)

pub same_root-sym : (a b : Option (ℕ × ℕ)) → same_root a b ≡ true → same_root b a ≡ true
same_root-sym None None h = refl
same_root-sym None (Some b) h = cc
same_root-sym (Some a) None h = cc
same_root-sym (Some a) (Some b) h = flipped b.0 a.0 ∙ h

-- the next owner of a root is of that root
pub next-root : (roots : List (List ℕ)) (root : Option ℕ) → root_in (next_owner roots root) ≡ root
next-root roots None = refl
next-root roots (Some r) = refl

pub next-same : (roots : List (List ℕ)) (o : Option (ℕ × ℕ)) → same_root (next_owner roots (root_in o)) o ≡ true
next-same roots None = refl
next-same roots (Some o) = eq-eqb o.0 o.0 refl

carried : (a b x y : Option (ℕ × ℕ)) → a ≡ x → b ≡ y → Fits x y → Fits a b
carried a b x y p q h = rw (p, q) h

-- what stands under the document itself did so before
abbrev pub StillTop : Doc → Doc → Type 0
StillTop d e = (n : ℕ) → parent_in (row_at e n) ≡ Document → parent_in (row_at d n) ≡ Document

pub roots-fewer : (d e : Doc) → Same d e → Fewer d e → StillTop d e → SameRoots d → SameRoots e
roots-fewer d e s less still r = record {
  under = λ n p h. elim (less n) [
    | inl same ↦ carried (owner_of e n) (owner_of e p) (owner_of d n) (owner_of d p) (owners n) (owners p) (r.under n p (sym same ∙ h))
    | inr none ↦ absurd (apart_from (parent_of e n) p none h)
  ];
  top = λ n h. carried (owner_of e n) None (owner_of d n) None (owners n) refl (r.top n (still n h));
}
  where
    owners : (m : ℕ) → owner_of e m ≡ owner_of d m
    owners m = ap (λ os. owner_in (slice_get os m)) s.0

    apart_from : (o : Option ℕ) (p : ℕ) → o ≡ None → o ≡ Some p → ⊥
    apart_from o p a b = cc

pub roots-moved : (d : Doc) (p c : ℕ) → c < length d.rows → same_root (owner_of d c) (owner_of d p) ≡ true → SameRoots d → SameRoots (moved p c d)
roots-moved d p c less same r = record { under = under; top = top }
  where
    owners : (m : ℕ) → owner_of (moved p c d) m ≡ owner_of d m
    owners m = ap (λ os. owner_in (slice_get os m)) (same-moved p c d).0

    under : (n q : ℕ) → parent_of (moved p c d) n ≡ Some q → Fits (owner_of (moved p c d) n) (owner_of (moved p c d) q)
    under n q h =
        let cases = elim (eqb n c) as (λ b. eqb n c ≡ b → Fits (owner_of (moved p c d) n) (owner_of (moved p c d) q)) [
          | true ↦ λ yes.
              let e : n ≡ c = eqb-true n c yes in
              let now : parent_of (moved p c d) n ≡ Some p = ap (parent_of (moved p c d)) e ∙ ap node_in (moved-here p c d less) in
              let it : q ≡ p = cc in
              carried (owner_of (moved p c d) n) (owner_of (moved p c d) q) (owner_of d c) (owner_of d p) (owners n ∙ ap (owner_of d) e) (owners q ∙ ap (owner_of d) it) (inl same)
          | false ↦ λ other. carried (owner_of (moved p c d) n) (owner_of (moved p c d) q) (owner_of d n) (owner_of d q) (owners n) (owners q) (r.under n q (sym (ap node_in (moved-other p c n d (apart n c other))) ∙ h))
        ] in cases refl

    top : (n : ℕ) → parent_in (row_at (moved p c d) n) ≡ Document → Fits (owner_of (moved p c d) n) None
    top n h =
        let cases = elim (eqb n c) as (λ b. eqb n c ≡ b → Fits (owner_of (moved p c d) n) None) [
          | true ↦ λ yes.
              let now : parent_in (row_at (moved p c d) n) ≡ Node p = ap (λ m. parent_in (row_at (moved p c d) m)) (eqb-true n c yes) ∙ moved-here p c d less in
              absurd (elsewhere (parent_in (row_at (moved p c d) n)) now h)
          | false ↦ λ other. carried (owner_of (moved p c d) n) None (owner_of d n) None (owners n) refl (r.top n (sym (moved-other p c n d (apart n c other)) ∙ h))
        ] in cases refl
      where
        elsewhere : (x : Parent) → x ≡ Node p → x ≡ Document → ⊥
        elsewhere x a b = cc

pub roots-new : (p : Parent) (root : Option ℕ) (c : NewNode) (attrs : List Attr) (d : Doc) → Ways d → length d.owners ≡ length d.rows → Stands d (node_in p) → ((q : ℕ) → node_in p ≡ Some q → Fits (next_owner d.roots root) (owner_of d q)) → (p ≡ Document → Fits (next_owner d.roots root) None) → SameRoots d → SameRoots (with_node p root c attrs d)
roots-new p root c attrs d w many stands fits fits_top r = record { under = under; top = top }
  where
    under : (n q : ℕ) → parent_of (with_node p root c attrs d) n ≡ Some q → Fits (owner_of (with_node p root c attrs d) n) (owner_of (with_node p root c attrs d) q)
    under n q h =
        let e = with_node p root c attrs d in
        let less : q < length d.rows = new-within p root c attrs d (node_in p) n q w refl stands h in
        let above : owner_of e q ≡ owner_of d q = old-owner p root c attrs d q many (λ x. omega (arith, less, x)) in
        let cases = elim (eqb n (length d.rows)) as (λ b. eqb n (length d.rows) ≡ b → Fits (owner_of e n) (owner_of e q)) [
          | true ↦ λ yes.
              let at : n ≡ length d.rows = eqb-true n (length d.rows) yes in
              let it : node_in p ≡ Some q = sym (ap (parent_of e) at ∙ ap (λ o. node_in (parent_in o)) (new-here p root c attrs d)) ∙ h in
              carried (owner_of e n) (owner_of e q) (next_owner d.roots root) (owner_of d q) (ap (owner_of e) at ∙ new-owner p root c attrs d many) above (fits q it)
          | false ↦ λ other. let ne = apart n (length d.rows) other in
              carried (owner_of e n) (owner_of e q) (owner_of d n) (owner_of d q) (old-owner p root c attrs d n many ne) above (r.under n q (sym (ap (λ o. node_in (parent_in o)) (new-other p root c attrs d n ne)) ∙ h))
        ] in cases refl

    top : (n : ℕ) → parent_in (row_at (with_node p root c attrs d) n) ≡ Document → Fits (owner_of (with_node p root c attrs d) n) None
    top n h =
        let e = with_node p root c attrs d in
        let cases = elim (eqb n (length d.rows)) as (λ b. eqb n (length d.rows) ≡ b → Fits (owner_of e n) None) [
          | true ↦ λ yes.
              let at : n ≡ length d.rows = eqb-true n (length d.rows) yes in
              let it : p ≡ Document = sym (ap (λ m. parent_in (row_at e m)) at ∙ ap parent_in (new-here p root c attrs d)) ∙ h in
              carried (owner_of e n) None (next_owner d.roots root) None (ap (owner_of e) at ∙ new-owner p root c attrs d many) refl (fits_top it)
          | false ↦ λ other. let ne = apart n (length d.rows) other in
              carried (owner_of e n) None (owner_of d n) None (old-owner p root c attrs d n many ne) refl (r.top n (sym (ap parent_in (new-other p root c attrs d n ne)) ∙ h))
        ] in cases refl
