-- The document of cleaned HTML: its nodes stand in document order, so a root begins with its first node, and no element is named as a text is.
use Rattle.std.proofs.Common.{◌≡◌, ℕ, zero, suc, ◌<◌, ◌≤◌, true, false, List, [], ◌∷◌, ◌++◌, Option, Some, None, length, refl, sym, ap, ◌∙◌, subst, arith, inl, inr}
use Rattle.std.specs.Prelude.{slice_get, ◌⊎◌, replicate}
use Rattle.std.proofs.Math.Dec.{eqb}
use Rattle.std.proofs.lemmas.Bool.{eqb-true}
use Rattle.std.proofs.lemmas.Option.{slice_get_within}
use Rattle.caja_units.specs.Units.{same_units}
use Rattle.html_tree.specs.declared.Attr.{Attr}
use Rattle.html_grammar.specs.Trees.{Sort, one, many, Tree, text_node, element, none, more}
use Rattle.html_kept.specs.Table.{Answers}
use Rattle.html_kept.specs.OfTable.{OfTable}
use Rattle.doc_nodes.specs.declared.node.Parent.{Parent}
use Rattle.doc_nodes.specs.declared.node.Parent.TheVariants.{Detached, Document, Node as under_node}
use Rattle.doc_nodes.specs.declared.node.NewNode.{NewNode}
use Rattle.doc_nodes.specs.declared.node.NewNode.TheVariants.{Element, Text}
use Rattle.doc_nodes.specs.Rows.{Row, Doc, row_at, parent_in, node_in, owner_of, nodes_in, nodes_of, node_with, parent_of, tag_in, same_root, is_granted}
use Rattle.doc_nodes.specs.Changes.{empty, joined, listed, with_node, with_owned, root_at, over}
use Rattle.doc_tree.specs.Cleaned.{attrs_from, add, from_clean}
use Rattle.doc_laws.specs.Reached.{Reached, IsGrantable}
use Rattle.doc_laws.proofs.Lists.{get_push, get_push_other, apart}
use Rattle.doc_laws.proofs.Edits.{Stands as IsThere, same-listed, listed-parents, edited-same, new-here, new-other, new-length}
use Rattle.doc_laws.proofs.Joined.{clean-reached}
use Rattle.rows.specs.Document.{text_tag}
use Rattle.doc_views.specs.Clear.{stray_in, stray_in_content, IsClear}
use Rattle.doc_views.proofs.Clear.{IsPlain, plain_text, plain_listed}

-- a node of a root was there at its place, or is the new one, which is the last
nodes_after : (roots : List (List ℕ)) (root : Option ℕ) (r at i m : ℕ) → ◌≡◌ {A = Option ℕ} (slice_get (nodes_of (with_owned root at roots) r) i) (Some m) → (◌≡◌ {A = Option ℕ} (slice_get (nodes_of roots r) i) (Some m)) ⊎ ((m ≡ at) × (i ≡ length (nodes_of roots r)))
nodes_after roots None r at i m h = inl h
nodes_after [] (Some q) r at i m h = inl h
nodes_after (ns ∷ roots) (Some zero) zero at i m h =
    let cases = elim (eqb i (length ns)) as (λ b. eqb i (length ns) ≡ b → (◌≡◌ {A = Option ℕ} (slice_get ns i) (Some m)) ⊎ ((m ≡ at) × (i ≡ length ns))) [
      | true ↦ λ same.
          let last : i ≡ length ns = eqb-true i (length ns) same in
          let both : ◌≡◌ {A = Option ℕ} (Some at) (Some m) = sym (ap (slice_get (ns ++ at ∷ [])) last ∙ get_push ns at) ∙ h in
          inr (cc (both), last)
      | false ↦ λ other. inl (sym (get_push_other ns i at (apart i (length ns) other)) ∙ h)
    ] in cases refl
nodes_after (ns ∷ roots) (Some zero) (suc r) at i m h = inl h
nodes_after (ns ∷ roots) (Some (suc q)) zero at i m h = inl h
nodes_after (ns ∷ roots) (Some (suc q)) (suc r) at i m h = nodes_after roots (Some q) r at i m h

-- nodes stand behind their parents and behind the first of their root, and no element is named as a text is
record IsOrdered (d : Doc) : Type 0 where
  pub behind : (n p : ℕ) → ◌≡◌ {A = Option ℕ} (parent_of d n) (Some p) → p < n
  pub rows : (r i m : ℕ) → ◌≡◌ {A = Option ℕ} (node_with d r i) (Some m) → m < length d.rows
  pub first : (r i n m : ℕ) → ◌≡◌ {A = Option ℕ} (node_with d r 0) (Some n) → ◌≡◌ {A = Option ℕ} (node_with d r i) (Some m) → n ≤ m
  pub named : (n : ℕ) (tag : List ℕ) → ◌≡◌ {A = Option (List ℕ)} (tag_in (row_at d n)) (Some tag) → same_units tag text_tag ≡ false
  pub texts : (n : ℕ) → stray_in (row_at d n) ≡ []

join_length : (p : Parent) (root : Option ℕ) (c : NewNode) (attrs : List Attr) (d : Doc) → length (joined p root c attrs d).rows ≡ suc (length d.rows)
join_length p root c attrs d = (same-listed p (length d.rows) (with_node p root c attrs d)).2 ∙ new-length p root c attrs d

join_part : {X : Type 0} (part : Option Row → X) (p : Parent) (m c : ℕ) (d : Doc) → ((ns : List ℕ) (r : Row) → part (Some (over ns r)) ≡ part (Some r)) → part (row_at (listed p c d) m) ≡ part (row_at d m)
join_part part Detached m c d lists = refl
join_part part Document m c d lists = refl
join_part part (under_node p) m c d lists = edited-same part d p m (λ r. over (r.children ++ c ∷ []) r) (λ r. lists (r.children ++ c ∷ []) r)

join_ordered : (p : Parent) (root : Option ℕ) (c : NewNode) (attrs : List Attr) (d : Doc) → IsThere d (node_in p) → IsPlain c → stray_in_content c attrs ≡ [] → IsOrdered d → IsOrdered (joined p root c attrs d)
join_ordered p root c attrs d stands plain no_stray o = record { behind = behind; rows = rows; first = first; named = named; texts = texts }
  where
    at : ℕ
    at = length d.rows

    e : Doc
    e = with_node p root c attrs d

    j : Doc
    j = joined p root c attrs d

    parents : (m : ℕ) → parent_of j m ≡ parent_of e m
    parents m = ap node_in (listed-parents p at m e)

    before : (x : Option ℕ) (q : ℕ) → IsThere d x → x ≡ Some q → q < at
    before None q w h = cc
    before (Some x) q w h = let same : x ≡ q = cc in omega (arith, w, same)

    behind : (n q : ℕ) → ◌≡◌ {A = Option ℕ} (parent_of j n) (Some q) → q < n
    behind n q h =
        let cases = elim (eqb n at) as (λ b. eqb n at ≡ b → q < n) [
          | true ↦ λ same.
              let here : n ≡ at = eqb-true n at same in
              let it : ◌≡◌ {A = Option ℕ} (node_in p) (Some q) = sym (ap (parent_of e) here ∙ ap (λ x. node_in (parent_in x)) (new-here p root c attrs d)) ∙ (sym (parents n) ∙ h) in
              omega (arith, here, before (node_in p) q stands it)
          | false ↦ λ other. o.behind n q (sym (ap (λ x. node_in (parent_in x)) (new-other p root c attrs d n (apart n at other))) ∙ (sym (parents n) ∙ h))
        ] in cases refl

    -- the nodes of a root
    was : (r i m : ℕ) → ◌≡◌ {A = Option ℕ} (node_with j r i) (Some m) → (◌≡◌ {A = Option ℕ} (node_with d r i) (Some m)) ⊎ ((m ≡ at) × (i ≡ length (nodes_of d.roots r)))
    was r i m h = nodes_after d.roots root r at i m (sym (ap (λ rs. slice_get (nodes_of rs r) i) (same-listed p at e).1) ∙ h)

    rows : (r i m : ℕ) → ◌≡◌ {A = Option ℕ} (node_with j r i) (Some m) → m < length j.rows
    rows r i m h = elim (was r i m h) [
      | inl old ↦ omega (arith, o.rows r i m old, join_length p root c attrs d)
      | inr new ↦ omega (arith, new.0, join_length p root c attrs d)
    ]

    first : (r i n m : ℕ) → ◌≡◌ {A = Option ℕ} (node_with j r 0) (Some n) → ◌≡◌ {A = Option ℕ} (node_with j r i) (Some m) → n ≤ m
    first r i n m h g = elim (was r 0 n h) [
      | inl old ↦ elim (was r i m g) [
        | inl older ↦ o.first r i n m old older
        | inr new ↦ omega (arith, o.rows r 0 n old, new.0)
      ]
      | inr begun ↦ elim (was r i m g) [
        | inl older ↦ absurd (omega (arith, begun.1, slice_get_within (nodes_of d.roots r) i m older))
        | inr new ↦ omega (arith, begun.0, new.0)
      ]
    ]

    named : (n : ℕ) (tag : List ℕ) → ◌≡◌ {A = Option (List ℕ)} (tag_in (row_at j n)) (Some tag) → same_units tag text_tag ≡ false
    named n tag h =
        let is : ◌≡◌ {A = Option (List ℕ)} (tag_in (row_at e n)) (Some tag) = sym (join_part tag_in p n at e (λ ns x. refl)) ∙ h in
        let cases = elim (eqb n at) as (λ b. eqb n at ≡ b → same_units tag text_tag ≡ false) [
          | true ↦ λ same. plain tag (sym (ap (λ m. tag_in (row_at e m)) (eqb-true n at same) ∙ ap tag_in (new-here p root c attrs d)) ∙ is)
          | false ↦ λ other. o.named n tag (sym (ap tag_in (new-other p root c attrs d n (apart n at other))) ∙ is)
        ] in cases refl

    texts : (n : ℕ) → stray_in (row_at j n) ≡ []
    texts n =
        let cases = elim (eqb n at) as (λ b. eqb n at ≡ b → stray_in (row_at e n) ≡ []) [
          | true ↦ λ same. ap (λ m. stray_in (row_at e m)) (eqb-true n at same) ∙ ap stray_in (new-here p root c attrs d) ∙ no_stray
          | false ↦ λ other. ap stray_in (new-other p root c attrs d n (apart n at other)) ∙ o.texts n
        ] in join_part stray_in p n at e (λ ns x. refl) ∙ cases refl

record Ordered (d e : Doc) : Type 0 where
  pub ordered : IsOrdered e
  pub more : length d.rows ≤ length e.rows

later : (d e : Doc) (o : Option ℕ) → length d.rows ≤ length e.rows → IsThere d o → IsThere e o
later d e None longer w = tt
later d e (Some q) longer w = omega (arith, w, longer)

add_ordered : (a : Answers) (ids : List (List ℕ)) (s : Sort) (x : Tree s) (p : Parent) (around : Option ℕ) (d : Doc) → OfTable a s x → IsThere d (node_in p) → IsOrdered d → Ordered d (add ids s x p around d)
add_ordered a ids _ (text_node us) p around d of w o = record { ordered = join_ordered p around (Text us) [] d w (plain_text us) refl o; more = omega (arith, join_length p around (Text us) [] d) }
add_ordered a ids _ (element tag xs ts) p around d of w o =
    let attrs = attrs_from xs in
    let root = root_at ids around attrs in
    let j = joined p root (Element tag) attrs d in
    let longer = join_length p root (Element tag) attrs d in
    let under = add_ordered a ids many ts (under_node (length d.rows)) root j of.2 (omega (arith, longer)) (join_ordered p root (Element tag) attrs d w (plain_listed tag of.0) refl o) in
    record { ordered = under.ordered; more = omega (arith, under.more, longer) }
add_ordered a ids _ none p around d of w o = record { ordered = o; more = omega arith }
add_ordered a ids _ (more x ts) p around d of w o =
    let e = add ids one x p around d in
    let before = add_ordered a ids one x p around d of.0 w o in
    let rest = add_ordered a ids many ts p around e of.1 (later d e (node_in p) before.more w) before.ordered in
    record { ordered = rest.ordered; more = omega (arith, before.more, rest.more) }

no_nodes : (k r i m : ℕ) → ◌≡◌ {A = Option ℕ} (slice_get (nodes_in (slice_get (replicate k []) r)) i) (Some m) → ⊥
no_nodes zero r i m h = cc
no_nodes (suc k) zero i m h = cc
no_nodes (suc k) (suc r) i m h = no_nodes k r i m h

empty_ordered : (k : ℕ) → IsOrdered (empty k)
empty_ordered k = record {
  behind = λ n p h. cc;
  rows = λ r i m h. absurd (no_nodes k r i m h);
  first = λ r i n m h g. absurd (no_nodes k r i m g);
  named = λ n tag h. cc;
  texts = λ n. refl;
}

pub clean_is_clear : (a : Answers) (ids : List (List ℕ)) (ts : Tree many) → IsGrantable ids ts → OfTable a many ts → IsClear (from_clean ids ts)
clean_is_clear a ids ts grants of = record { named = o.named; texts = o.texts; first = first }
  where
    d : Doc
    d = from_clean ids ts

    ok : Reached d
    ok = clean-reached ids ts grants

    o : IsOrdered d
    o = (add_ordered a ids many ts Document None (empty (length ids)) of tt (empty_ordered (length ids))).ordered

    -- a parent of the same root would stand before its first node
    no_owner : (n p : ℕ) (x y : Option (ℕ × ℕ)) → owner_of d n ≡ x → owner_of d p ≡ y → is_granted x ≡ true → ◌≡◌ {A = Option ℕ} (parent_of d n) (Some p) → same_root x y ≡ true → y ≡ None
    no_owner n p None y is it granted h same = cc
    no_owner n p (Some x) None is it granted h same = refl
    no_owner n p (Some x) (Some y) is it granted h same =
        let zeroth : x.1 ≡ 0 = eqb-true x.1 0 granted in
        let one : x.0 ≡ y.0 = eqb-true x.0 y.0 same in
        let begins : ◌≡◌ {A = Option ℕ} (node_with d y.0 0) (Some n) = subst (λ k. ◌≡◌ {A = Option ℕ} (node_with d y.0 k) (Some n)) zeroth (subst (λ r. ◌≡◌ {A = Option ℕ} (node_with d r x.1) (Some n)) one (ok.owned.to n x.0 x.1 is)) in
        absurd (omega (arith, o.behind n p h, o.first y.0 y.1 n p begins (ok.owned.to p y.0 y.1 it)))

    first : (n p : ℕ) → is_granted (owner_of d n) ≡ true → ◌≡◌ {A = Option ℕ} (parent_of d n) (Some p) → ◌≡◌ {A = Option (ℕ × ℕ)} (owner_of d p) None
    first n p granted h = elim (ok.roots.under n p h) [
      | inl same ↦ no_owner n p (owner_of d n) (owner_of d p) refl refl granted h same
      | inr alone ↦ alone.1
    ]
