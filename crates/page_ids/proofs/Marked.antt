-- The document of cleaned HTML: its nodes are the elements and texts in their order, and each is of the root in which it stands.
use Rattle.std.proofs.Common.{◌≡◌, ◌≢◌, ℕ, zero, suc, ◌+◌, ◌<◌, Bool, true, false, List, [], ◌∷◌, ◌++◌, Option, Some, None, length, refl, sym, ap, ◌∙◌, subst, arith, append_assoc, append-nil}
use Rattle.std.specs.Prelude.{slice_get, replicate, codes}
use Rattle.std.proofs.Math.Dec.{eqb}
use Rattle.std.proofs.Math.ListN.{length-set}
use Rattle.std.proofs.lemmas.Bool.{eqb-true}
use Rattle.std.proofs.lemmas.List.{length-append, length-replicate}
use Rattle.html_grammar.specs.Trees.{Sort, one, many, Tree, text_node, element, none, more}
use Rattle.html_tree.specs.declared.Attr.{Attr}
use Rattle.doc_nodes.specs.declared.node.Parent.{Parent}
use Rattle.doc_nodes.specs.declared.node.Parent.TheVariants.{Detached, Document, Node as under_node}
use Rattle.doc_nodes.specs.declared.node.NewNode.{NewNode}
use Rattle.doc_nodes.specs.declared.node.NewNode.TheVariants.{Element, Text}
use Rattle.doc_nodes.specs.Rows.{Row, Doc, row_at, owner_in, owner_of, nodes_of, tag_in, tag_in_content, value_at}
use Rattle.doc_nodes.specs.Changes.{empty, is_node, joined, listed, next_owner, with_node, with_owned, root_in, root_at, over}
use Rattle.doc_tree.specs.Cleaned.{attrs_from, add, from_clean}
use Rattle.doc_laws.proofs.Lists.{get_push, get_push_other, apart}
use Rattle.doc_laws.proofs.Edits.{same-listed, edited-same, fresh, new-here, new-other, new-length}
use Rattle.doc_laws.proofs.Ownership.{new-owner, old-owner, next-root, next_of, other_root}
use Rattle.page_ids.proofs.Marks.{Mark, a_text, an_element, mark_id, mark_tag, within, with_own, marks, id_at, tag_at, near, near_own, near_less, root_at_mark}

-- the id of a row
abbrev pub id_in : Option Row → Option (List ℕ)
id_in None = None
id_in (Some x) = value_at (codes "id") x.attrs

-- a number before others, where it is wanted
abbrev pub put : Bool → ℕ → List ℕ → List ℕ
put true i l = i ∷ l
put false i l = l

put_append : (b : Bool) (i : ℕ) (a c : List ℕ) → put b i (a ++ c) ≡ put b i a ++ c
put_append true i a c = refl
put_append false i a c = refl

module _ (roots : List (List ℕ)) where
  -- the places, from i on, of what stands in a root
  abbrev pub places : ℕ → ℕ → List Mark → List ℕ
  places r i [] = []
  places r i (m ∷ ms) = put (is_node r (near roots (within m))) i (places r (suc i) ms)

  places_push : (r i : ℕ) (ms : List Mark) (m : Mark) → places r i (ms ++ m ∷ []) ≡ places r i ms ++ put (is_node r (near roots (within m))) (i + length ms) []
  places_push r i [] m = let same : i ≡ i + 0 = omega arith in ap (λ k. put (is_node r (near roots (within m))) k []) same
  places_push r i (x ∷ ms) m =
      let b = is_node r (near roots (within x)) in
      let same : suc i + length ms ≡ i + length (x ∷ ms) = omega arith in
      ap (put b i) (places_push r (suc i) ms m ∙ ap (λ k. places r (suc i) ms ++ put (is_node r (near roots (within m))) k []) same)
      ∙ put_append b i (places r (suc i) ms) (put (is_node r (near roots (within m))) (i + length (x ∷ ms)) [])

  -- the nodes of a document are these, in order
  pub record Marked (d : Doc) (ms : List Mark) : Type 0 where
    pub count : length d.roots ≡ length roots
    pub rows : length d.rows ≡ length ms
    pub owners : length d.owners ≡ length d.rows
    pub ids : (n : ℕ) → id_in (row_at d n) ≡ id_at (slice_get ms n)
    pub tags : (n : ℕ) → tag_in (row_at d n) ≡ tag_at (slice_get ms n)
    pub stand : (n : ℕ) → root_in (owner_of d n) ≡ root_at_mark roots (slice_get ms n)
    pub numbers : (r : ℕ) → nodes_of d.roots r ≡ places r 0 ms

  -- what isn't about children
  part_listed : {X : Type 0} (part : Option Row → X) (p : Parent) (c m : ℕ) (d : Doc) → ((ns : List ℕ) (r : Row) → part (Some (over ns r)) ≡ part (Some r)) → part (row_at (listed p c d) m) ≡ part (row_at d m)
  part_listed part Detached c m d lists = refl
  part_listed part Document c m d lists = refl
  part_listed part (under_node p) c m d lists = edited-same part d p m (λ r. over (r.children ++ c ∷ []) r) (λ r. lists (r.children ++ c ∷ []) r)

  module _ (p : Parent) (root : Option ℕ) (c : NewNode) (attrs : List Attr) (d : Doc) (ms : List Mark) (m : Mark) (was : Marked d ms) where
    abbrev e : Doc
    e = with_node p root c attrs d

    abbrev j : Doc
    j = joined p root c attrs d

    abbrev last : ℕ
    last = length d.rows

    -- something of the new one, and of the others
    by_place : {X : Type 0} (f : ℕ → X) (g : Option Mark → X) → f last ≡ g (Some m) → ((n : ℕ) → n ≢ last → f n ≡ g (slice_get ms n)) → (n : ℕ) → f n ≡ g (slice_get (ms ++ m ∷ []) n)
    by_place f g here others n =
        let cases = elim (eqb n last) as (λ b. eqb n last ≡ b → f n ≡ g (slice_get (ms ++ m ∷ []) n)) [
          | true ↦ λ same.
              let is : n ≡ last = eqb-true n last same in
              let at : n ≡ length ms = is ∙ was.rows in
              ap f is ∙ here ∙ ap g (sym (ap (slice_get (ms ++ m ∷ [])) at ∙ get_push ms m))
          | false ↦ λ other.
              let ne : n ≢ last = apart n last other in
              others n ne ∙ ap g (sym (get_push_other ms n m (λ at. ne (at ∙ sym was.rows))))
        ] in cases refl

    of_row : {X : Type 0} (part : Option Row → X) (g : Option Mark → X) → ((ns : List ℕ) (r : Row) → part (Some (over ns r)) ≡ part (Some r)) → part (Some (fresh p c attrs)) ≡ g (Some m) → ((n : ℕ) → part (row_at d n) ≡ g (slice_get ms n))
        → (n : ℕ) → part (row_at j n) ≡ g (slice_get (ms ++ m ∷ []) n)
    of_row part g lists new old =
        by_place (λ n. part (row_at j n)) g (part_listed part p last last e lists ∙ ap part (new-here p root c attrs d) ∙ new)
        (λ n ne. part_listed part p last n e lists ∙ ap part (new-other p root c attrs d n ne) ∙ old n)

    owner_same : (n : ℕ) → owner_of j n ≡ owner_of e n
    owner_same n = ap (λ os. owner_in (slice_get os n)) (same-listed p last e).0

    with_last : (o : Option ℕ) (r : ℕ) → ((q : ℕ) → o ≡ Some q → q < length d.roots) → nodes_of (with_owned o last d.roots) r ≡ nodes_of d.roots r ++ put (is_node r o) last []
    with_last None r less = sym (append-nil (nodes_of d.roots r))
    with_last (Some q) r less =
        let cases = elim (eqb q r) as (λ b. eqb q r ≡ b → nodes_of (with_owned (Some q) last d.roots) r ≡ nodes_of d.roots r ++ put b last []) [
          | true ↦ λ same. subst (λ x. nodes_of (with_owned (Some q) last d.roots) x ≡ nodes_of d.roots x ++ last ∷ []) (eqb-true q r same) (next_of d.roots q last (less q refl))
          | false ↦ λ other. other_root d.roots q r last (λ is. apart q r other (sym is)) ∙ sym (append-nil (nodes_of d.roots r))
        ] in cases refl

    -- what comes last in its root
    module _ (its_root : root ≡ near roots (within m)) (its_id : value_at (codes "id") attrs ≡ mark_id m) (its_tag : tag_in_content c ≡ mark_tag m) where
      in_root : (r : ℕ) → nodes_of j.roots r ≡ places r 0 (ms ++ m ∷ [])
      in_root r =
          let less : (q : ℕ) → root ≡ Some q → q < length d.roots = λ q h. omega (arith, near_less roots (within m) q (sym its_root ∙ h), was.count) in
          let place : last ≡ 0 + length ms = omega (arith, was.rows) in
          ap (λ rs. nodes_of rs r) (same-listed p last e).1 ∙ with_last root r less ∙ ap (λ l. l ++ put (is_node r root) last []) (was.numbers r)
          ∙ ap (λ o. places r 0 ms ++ put (is_node r o) last []) its_root ∙ ap (λ k. places r 0 ms ++ put (is_node r (near roots (within m))) k []) place
          ∙ sym (places_push r 0 ms m)

      pub join_marked : Marked j (ms ++ m ∷ [])
      join_marked = record {
        count = ap length (same-listed p last e).1 ∙ owned_length root ∙ was.count;
        rows = (same-listed p last e).2 ∙ new-length p root c attrs d ∙ omega (arith, was.rows, length-append ms (m ∷ []));
        owners = ap length (same-listed p last e).0 ∙ omega (arith, length-append d.owners (next_owner d.roots root ∷ []), was.owners, new-length p root c attrs d, (same-listed p last e).2);
        ids = of_row id_in id_at (λ ns r. refl) its_id was.ids;
        tags = of_row tag_in tag_at (λ ns r. refl) its_tag was.tags;
        stand = by_place (λ n. root_in (owner_of j n)) (root_at_mark roots) (ap root_in (owner_same last ∙ new-owner p root c attrs d was.owners) ∙ next-root d.roots root ∙ its_root)
            (λ n ne. ap root_in (owner_same n ∙ old-owner p root c attrs d n was.owners ne) ∙ was.stand n);
        numbers = in_root;
      }
        where
          owned_length : (o : Option ℕ) → length (with_owned o last d.roots) ≡ length d.roots
          owned_length None = refl
          owned_length (Some q) = length-set d.roots q (nodes_of d.roots q ++ last ∷ [])

  add_marked : (s : Sort) (x : Tree s) (p : Parent) (path : List (List ℕ)) (d : Doc) (ms : List Mark) → Marked d ms → Marked (add roots s x p (near roots path) d) (ms ++ marks s x path)
  add_marked _ (text_node us) p path d ms was = join_marked p (near roots path) (Text us) [] d ms (a_text path) was refl refl refl
  add_marked _ (element tag xs ts) p path d ms was =
      let attrs = attrs_from xs in
      let v = value_at (codes "id") attrs in
      let m = an_element tag v path in
      let root = root_at roots (near roots path) attrs in
      let own : root ≡ near roots (with_own v path) = near_own roots v path in
      let j = joined p root (Element tag) attrs d in
      let begun = join_marked p root (Element tag) attrs d ms m was own refl refl in
      let rest = add_marked many ts (under_node (length d.rows)) (with_own v path) j (ms ++ m ∷ []) begun in
      subst (λ l. Marked (add roots one (element tag xs ts) p (near roots path) d) l) (append_assoc ms (m ∷ []) (marks many ts (with_own v path)))
      (subst (λ o. Marked (add roots many ts (under_node (length d.rows)) o j) ((ms ++ m ∷ []) ++ marks many ts (with_own v path))) (sym own) rest)
  add_marked _ none p path d ms was = subst (Marked d) (sym (append-nil ms)) was
  add_marked _ (more x ts) p path d ms was =
      let first = add_marked one x p path d ms was in
      let f = add roots one x p (near roots path) d in
      let rest = add_marked many ts p path f (ms ++ marks one x path) first in
      subst (λ l. Marked (add roots many ts p (near roots path) f) l) (append_assoc ms (marks one x path) (marks many ts path)) rest

  no_numbers : (k r : ℕ) → nodes_of (replicate k []) r ≡ []
  no_numbers zero r = refl
  no_numbers (suc k) zero = refl
  no_numbers (suc k) (suc r) = no_numbers k r

  pub clean_marked : (ts : Tree many) → Marked (from_clean roots ts) (marks many ts [])
  clean_marked ts =
      let k = length roots in
      let begun : Marked (empty k) [] = record { count = length-replicate k []; rows = refl; owners = refl; ids = λ n. refl; tags = λ n. refl; stand = λ n. refl; numbers = no_numbers k } in
      add_marked many ts Document [] (empty k) [] begun
