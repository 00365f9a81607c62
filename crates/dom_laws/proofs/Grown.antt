-- A deed makes one node at most, which has its object from its beginning.
use Rattle.std.proofs.Common.{◌≡◌, ◌≢◌, ◌⊎◌, inl, inr, ℕ, suc, ◌<◌, ◌≤◌, Bool, true, false, List, [], ◌∷◌, Option, Some, None, Ok, Err, length, cond, refl, sym, ap, ◌∙◌, subst, arith}
use Rattle.std.specs.Prelude.{nat_lt}
use Rattle.std.proofs.Math.Dec.{eqb}
use Rattle.std.proofs.lemmas.Bool.{eqb-true}
use Rattle.std.proofs.lemmas.Bool.Decides.{nat_tests}
use Rattle.es3_objects.specs.declared.value.Tag.TheVariants as tag
use Rattle.es3_heap.specs.Objects.{Objects, tag_of}
use Rattle.html_grammar.specs.Tables.{is_in}
use Rattle.html_kept.specs.Table.{Answers, listed}
use Rattle.doc_nodes.specs.declared.node.DocError.TheVariants.{NoNode}
use Rattle.doc_nodes.specs.declared.node.Parent.TheVariants as parent
use Rattle.doc_nodes.specs.declared.node.NewNode.{NewNode}
use Rattle.doc_nodes.specs.declared.node.NewNode.TheVariants.{Element, Text}
use Rattle.doc_nodes.specs.Rows.{Row, Doc, has, row_at, children_in, owner_of, tag_in}
use Rattle.doc_nodes.specs.Changes.{edited, marked, with_value, holding, over, with_node, freed, moved, taken, is_child, set_attr, set_text, with_text, filled, refilled, root_in}
use Rattle.doc_laws.specs.Owned.{Grows}
use Rattle.doc_laws.specs.Reached.{Reached}
use Rattle.doc_laws.proofs.Edits.{same-then, same-edited, same-moved, same-taken, same-freed, edited-length, new-length}
use Rattle.doc_laws.proofs.Lists.{apart}
use Rattle.node_deeds.specs.declared.told.Refusal.{Refusal}
use Rattle.node_deeds.specs.declared.told.Refusal.TheVariants.{BadArgument, NotAllowed}
use Rattle.node_deeds.specs.declared.told.Change.{Change}
use Rattle.node_deeds.specs.declared.told.Change.TheVariants as line
use Rattle.node_deeds.specs.declared.deeds.Asked.{Asked}
use Rattle.node_deeds.specs.declared.deeds.Asked.TheVariants as asked
use Rattle.node_deeds.specs.Told.{Told, told_undefined, told_argument}
use Rattle.node_deeds.specs.Deeds as deeds
use Rattle.node_deeds.specs.Deeds.{deed, changes, changed, attribute_set, value_for, is_void, refuses, created, child_refused, number_in}
use Rattle.deed_laws.proofs.Deeds.{owner_there}
use Rattle.dom_facets.specs.Facets.{facet_at, with_facet, facet_tag}
use Rattle.tamed_dom.specs.Lent.{Lent, Held, with_facets, with_object_of, grown}
use Rattle.dom_laws.specs.Store.{tag_at}
use Rattle.dom_laws.specs.Fits.{Fits}
use Rattle.dom_laws.proofs.Fits.{with_node as with_object_for, at_other, name_here, Partly, all_there, new_keeps, facet_here, facet_other}

-- how many nodes there are after a deed

Few : Doc → Doc → Type 0
Few d e = length e.rows ≤ suc (length d.rows)

few_same : (d e : Doc) → length e.rows ≡ length d.rows → Few d e
unfolding Few
few_same d e same = omega (arith, same)

few_doc : (d : Doc) → Few d d
few_doc d = few_same d d refl

few_changes : (d e : Doc) (f : ℕ → ℕ → Change) (t : Told) (o : Option (ℕ × ℕ)) → Few d e → Few d (changes f t o e).doc
few_changes d e f t None few = few
few_changes d e f t (Some o) few = few

few_attr : (d : Doc) (n : ℕ) (name v : List ℕ) → Few d (changed (set_attr n name v d) d)
few_attr d n name v =
    let g : Row → Row = λ r. marked (with_value name v r.attrs) r in
    elim (has d n) as (λ b. Few d (changed (cond b (Ok (edited d n g)) (Err NoNode)) d)) [ true ↦ few_same d (edited d n g) (edited-length d n g) | false ↦ few_doc d ]

few_attribute : (d : Doc) (n : ℕ) (name : List ℕ) (o : Option (List ℕ)) → Few d (attribute_set name o n d).doc
few_attribute d n name None = few_doc d
few_attribute d n name (Some v) = few_changes d (changed (set_attr n name v d) d) (λ r k. line.Set r k name v) told_undefined (owner_of d n) (few_attr d n name v)

few_refilled : (d : Doc) (n : ℕ) (us : List ℕ) → Few d (refilled n us d)
unfolding Few
few_refilled d n us =
    let e = with_node (parent.Node n) (root_in (owner_of d n)) (Text us) [] d in
    let g = edited e n (over (length d.rows ∷ [])) in
    let ns = children_in (row_at e n) in
    let same = same-then e g (freed ns g) (same-edited e n (over (length d.rows ∷ []))) (same-freed ns g) in
    let new = new-length (parent.Node n) (root_in (owner_of d n)) (Text us) [] d in
    let all : length (refilled n us d).rows ≡ suc (length d.rows) = same.2 ∙ new in
    omega (arith, all)

few_filled : (d : Doc) (n : ℕ) (us : List ℕ) (c : NewNode) → Few d (filled n us c d)
few_filled d n us (Element t) = few_refilled d n us
few_filled d n us (Text old) = few_same d (edited d n (holding (Text us))) (edited-length d n (holding (Text us)))

few_text : (d : Doc) (n : ℕ) (us : List ℕ) (o : Option Row) → Few d (changed (with_text n us o d) d)
few_text d n us None = few_doc d
few_text d n us (Some r) = few_filled d n us r.content

few_set_text : (d : Doc) (n : ℕ) (us : List ℕ) (b : Bool) → Few d (cond b (refuses NotAllowed d) (changes (λ r k. line.Text r k us) told_undefined (owner_of d n) (changed (set_text n us d) d))).doc
few_set_text d n us true = few_doc d
few_set_text d n us false = few_changes d (changed (set_text n us d) d) (λ r k. line.Text r k us) told_undefined (owner_of d n) (few_text d n us (row_at d n))

few_created : (d : Doc) (c : NewNode) (o : Option ℕ) → Few d (created o c d).doc
unfolding Few
few_created d c None = omega arith
few_created d c (Some root) = let new = new-length parent.Detached (Some root) c [] d in omega (arith, new)

few_element : (d : Doc) (us : List ℕ) (n : ℕ) (b : Bool) → Few d (cond b (created (root_in (owner_of d n)) (Element us) d) (refuses NotAllowed d)).doc
few_element d us n true = few_created d (Element us) (root_in (owner_of d n))
few_element d us n false = few_doc d

few_appended : (d : Doc) (c n : ℕ) (o : Option Refusal) → Few d (deeds.unless o d (changes (λ r k. line.Append r k (number_in (owner_of d c))) told_argument (owner_of d n) (moved n c d))).doc
few_appended d c n (Some x) = few_doc d
few_appended d c n None = few_changes d (moved n c d) (λ r k. line.Append r k (number_in (owner_of d c))) told_argument (owner_of d n) (few_same d (moved n c d) (same-moved n c d).2)

few_removed : (d : Doc) (c n : ℕ) (b : Bool) → Few d (cond b (changes (λ r k. line.Remove r k (number_in (owner_of d c))) told_argument (owner_of d n) (taken n c d)) (refuses BadArgument d)).doc
few_removed d c n true = few_changes d (taken n c d) (λ r k. line.Remove r k (number_in (owner_of d c))) told_argument (owner_of d n) (few_same d (taken n c d) (same-taken n c d).2)
few_removed d c n false = few_doc d

few : (a : Answers) (q : Asked) (n : ℕ) (d : Doc) → Few d (deed a q n d).doc
few a asked.TagName n d = few_doc d
few a asked.ParentNode n d = few_doc d
few a asked.ChildNodes n d = few_doc d
few a (asked.ElementById id) n d = few_doc d
few a (asked.Attribute name) n d = few_doc d
few a (asked.SetAttribute name v) n d = few_attribute d n name (value_for a name v (tag_in (row_at d n)))
few a asked.Text n d = few_doc d
few a (asked.SetText us) n d = few_set_text d n us (is_void (tag_in (row_at d n)))
few a (asked.CreateElement us) n d = few_element d us n (is_in listed us)
few a (asked.CreateTextNode us) n d = few_created d (Text us) (root_in (owner_of d n))
few a (asked.AppendChild c) n d = few_appended d c n (child_refused d n c)
few a (asked.RemoveChild c) n d = few_removed d c n (is_child d n c)

pub deed_makes_one : (a : Answers) (q : Asked) (n : ℕ) (d : Doc) → length (deed a q n d).doc.rows ≤ suc (length d.rows)
unfolding Few
deed_makes_one a q n d = few a q n d

-- a node of a root has a number there
pub rooted : (o : Option (ℕ × ℕ)) (r : ℕ) → root_in o ≡ Some r → (k : ℕ) × (o ≡ Some (r, k))
rooted None r is = cc
rooted (Some o) r is = let one : o.0 ≡ r = cc in (o.1, ap (λ x. Some (x, o.1)) one)

-- one node more, or none

pub by_growth : (P : Held → Type 0) (n : ℕ) (h : Objects) (z : Lent) → (n < length z.doc.rows → P (with_object_of n h z)) → (length z.doc.rows ≤ n → P (record { heap = h; lent = z })) → P (grown n h z)
unfolding grown
by_growth P n h z more same =
    let cases = elim (nat_lt n (length z.doc.rows)) as (λ b. nat_lt n (length z.doc.rows) ≡ b → P (cond b (with_object_of n h z) (record { heap = h; lent = z }))) [
      | true ↦ λ yes. more (grind (arith, nat_tests))
      | false ↦ λ no. same (grind (arith, nat_tests))
    ] in cases refl

-- all of what is lent stays but which nodes have objects
pub grown_lent : (n : ℕ) (h : Objects) (z : Lent) → (fs : List (Option ℕ)) × ((grown n h z).lent ≡ with_facets fs z)
grown_lent n h z = by_growth (λ g. (fs : List (Option ℕ)) × (g.lent ≡ with_facets fs z)) n h z (λ more. (_, refl)) (λ same. (z.facets, refl))

no_facet_yet : (h : Objects) (z : Lent) (n : ℕ) → Fits h z → length z.doc.rows ≤ n → facet_at z.facets n ≡ None
no_facet_yet h z n f past = at (facet_at z.facets n) refl
  where
    at : (o : Option ℕ) → facet_at z.facets n ≡ o → o ≡ None
    at None is = refl
    at (Some o) is = let a = f.kept n o is in let less = owner_there z.doc n a.0 f.doc.owned (ap root_in a.2) in absurd (omega (arith, less, past))

module _ (h : Objects) (z : Lent) (d : Doc) (c : Option Change) (f : Fits h z) (reached : Reached d) (grows : Grows z.doc d) where
  after : Lent
  after = record { doc = d; facets = z.facets; handlers = z.handlers; change = c }

  still : (n r k : ℕ) → owner_of z.doc n ≡ Some (r, k) → owner_of d n ≡ Some (r, k)
  still n r k is = grows.owners n (owner_there z.doc n r f.doc.owned (ap root_in is)) ∙ is

  partly : Partly h after
  unfolding after
  partly = record {
    doc = reached;
    kept = λ n o is. let q = f.kept n o is in (q.0, q.1, still n q.0 q.1 q.2, q.3);
    named = λ o r k is. let q = f.named o r k is in (q.0, still q.0 r k q.1, q.2);
    nodes = f.nodes;
    handlers = f.handlers;
  }

  old_there : (n r k : ℕ) → n < length z.doc.rows → owner_of d n ≡ Some (r, k) → (o : ℕ) × (facet_at z.facets n ≡ Some o)
  old_there n r k less own = f.there n r k (sym (grows.owners n less) ∙ own)

  pub same_fits : length d.rows ≤ length z.doc.rows → Fits h (record { doc = d; facets = z.facets; handlers = z.handlers; change = c })
  unfolding after
  same_fits no_more = all_there h after partly (λ n r k own. let less = owner_there d n r reached.owned (ap root_in own) in old_there n r k (omega (arith, less, no_more)) own)

  more_fits : (r : ℕ) → length d.rows ≤ suc (length z.doc.rows) → root_in (owner_of d (length z.doc.rows)) ≡ Some r
      → Fits (with_object_of (length z.doc.rows) h (record { doc = d; facets = z.facets; handlers = z.handlers; change = c })).heap (with_object_of (length z.doc.rows) h (record { doc = d; facets = z.facets; handlers = z.handlers; change = c })).lent
  unfolding after
  more_fits r one_more of =
      let new = length z.doc.rows in
      let own = rooted (owner_of d new) r of in
      let fs = with_facet new (length h.list) z.facets in
      let p = new_keeps new r own.0 h after partly own.1 (no_facet_yet h z new f (omega arith)) in
      let there = λ (n s k : ℕ) (has : owner_of d n ≡ Some (s, k)).
      elim (eqb n new) as (λ b. eqb n new ≡ b → (o : ℕ) × (facet_at fs n ≡ Some o)) [
        | true ↦ λ yes. (length h.list, ap (facet_at fs) (eqb-true n new yes) ∙ facet_here new (length h.list) z.facets)
        | false ↦ λ other.
            let ne : n ≢ new = apart n new other in
            let less = owner_there d n s reached.owned (ap root_in has) in
            let a = old_there n s k (omega (arith, ne, less, one_more)) has in
            (a.0, facet_other new n (length h.list) z.facets ne ∙ a.1)
      ] refl in
      let fits = all_there (with_object_for h (tag.Facet r own.0)) (with_facets fs after) p there in
      subst (λ o. Fits (with_object_for h (facet_tag o)) (with_facets fs after)) (sym own.1) fits

  pub grown_fits : (r : ℕ) → length d.rows ≤ suc (length z.doc.rows) → (length z.doc.rows < length d.rows → root_in (owner_of d (length z.doc.rows)) ≡ Some r)
      → let g = grown (length z.doc.rows) h (record { doc = d; facets = z.facets; handlers = z.handlers; change = c }) in Fits g.heap g.lent
  grown_fits r one_more of =
      by_growth (λ g. Fits g.heap g.lent) (length z.doc.rows) h (record { doc = d; facets = z.facets; handlers = z.handlers; change = c }) (λ more. more_fits r one_more (of more)) (λ same. same_fits same)

-- an object that stands for a node then did so before, or stands for the new node
pub grown_names : (n r : ℕ) (h : Objects) (z : Lent) → (n < length z.doc.rows → root_in (owner_of z.doc n) ≡ Some r) → (o s k : ℕ) → tag_at (grown n h z).heap o ≡ tag.Facet s k
    → (tag_at h o ≡ tag.Facet s k) ⊎ ((s ≡ r) × (o ≡ length h.list) × (owner_of z.doc n ≡ Some (s, k)))
grown_names n r h z of o s k =
    by_growth (λ g. tag_at g.heap o ≡ tag.Facet s k → (tag_at h o ≡ tag.Facet s k) ⊎ ((s ≡ r) × (o ≡ length h.list) × (owner_of z.doc n ≡ Some (s, k)))) n h z (λ more. new (of more)) (λ same is. inl is)
  where
    named : (w : Option (ℕ × ℕ)) → root_in w ≡ Some r → facet_tag w ≡ tag.Facet s k → (s ≡ r) × (w ≡ Some (s, k))
    named None is at = cc (is)
    named (Some w) is at =
        let one : w.0 ≡ s = cc (at) in
        let two : w.1 ≡ k = cc (at) in
        let root : w.0 ≡ r = cc (is) in
        (sym one ∙ root, ap (λ x. Some (x, w.1)) one ∙ ap (λ y. Some (s, y)) two)

    new : root_in (owner_of z.doc n) ≡ Some r → tag_at (with_object_of n h z).heap o ≡ tag.Facet s k → (tag_at h o ≡ tag.Facet s k) ⊎ ((s ≡ r) × (o ≡ length h.list) × (owner_of z.doc n ≡ Some (s, k)))
    new root is =
        let t = facet_tag (owner_of z.doc n) in
        let cases = elim (eqb o (length h.list)) as (λ b. eqb o (length h.list) ≡ b → (tag_at h o ≡ tag.Facet s k) ⊎ ((s ≡ r) × (o ≡ length h.list) × (owner_of z.doc n ≡ Some (s, k)))) [
          | true ↦ λ yes.
              let last : o ≡ length h.list = eqb-true o (length h.list) yes in
              let a = named (owner_of z.doc n) root (sym (name_here h t) ∙ ap (tag_at (with_object_for h t)) (sym last) ∙ is) in
              inr (a.0, last, a.1)
          | false ↦ λ other. inl (sym (ap tag_of (at_other h t o (apart o (length h.list) other))) ∙ is)
        ] in cases refl
