-- A root begins with the same nodes, whatever other roots are granted: the rows are the same, and the same rows are of the root, with the same numbers there.
use Rattle.std.proofs.Common.{◌≡◌, ℕ, zero, suc, ◌<◌, Bool, true, false, List, [], ◌∷◌, ◌++◌, Option, Some, None, length, cond, get_or, refl, sym, ap, ◌∙◌, subst, arith}
use Rattle.std.specs.Prelude.{◌&&◌, map, slice_get, slice_set, nat_eq, replicate, is_some, codes}
use Rattle.std.specs.Option.{option_map}
use Rattle.std.proofs.lemmas.Bool.{true≢false, eqb-true, eq-eqb, false_from_ne_true}
use Rattle.std.proofs.lemmas.List.Quantifiers.{position-Some}
use Rattle.caja_units.specs.Units.{same_units}
use Rattle.caja_units.proofs.Texts.{same_units-equal, same_units-from_equal}
use Rattle.html_grammar.specs.Trees.{Sort, one, many, Tree, text_node, element, none, more}
use Rattle.html_tree.specs.declared.Attr.{Attr}
use Rattle.doc_nodes.specs.declared.node.Parent.{Parent}
use Rattle.doc_nodes.specs.declared.node.Parent.TheVariants.{Detached, Document, Node as under_node}
use Rattle.doc_nodes.specs.declared.node.NewNode.{NewNode}
use Rattle.doc_nodes.specs.declared.node.NewNode.TheVariants.{Element, Text}
use Rattle.doc_nodes.specs.Rows.{Row, Doc, row_at, children_in, owner_of, nodes_in, nodes_of, tag_in, text_in, value_at}
use Rattle.doc_nodes.specs.Changes.{empty, edited, edited_row, over, listed, with_node, with_owned, joined, granted, or_around, root_at, root_in, is_node}
use Rattle.doc_tree.specs.Cleaned.{attrs_from, add, from_clean}
use Rattle.doc_laws.specs.Forest.{one_if}
use Rattle.doc_laws.specs.Reached.{Reached, inside}
use Rattle.doc_laws.proofs.Joined.{clean-reached}
use Rattle.doc_laws.proofs.Lists.{get_set_other}
use Rattle.node_deeds.specs.Deeds.{tag_or_text, text_or_empty}
use Rattle.deed_laws.specs.Deeds.{AreOf}
use Rattle.deed_laws.proofs.Nodes.{children-of}
use Rattle.rows.specs.Document.{Node}
use Rattle.doc_views.specs.Seen.{local, pairs_in, parent_seen, node_from, node_seen, nodes_seen, Stands}
use Rattle.doc_views.proofs.Views.{number_is, stands_in, parent_is_seen}
use Rattle.root_texts.specs.Begins.{RootsBeginAlike}

-- lists

none_more : {X : Type 0} (xs : List X) → xs ≡ xs ++ []
none_more [] = refl
none_more (x ∷ xs) = ap (λ l. x ∷ l) (none_more xs)

set_here : {X : Type 0} (xs : List X) (i : ℕ) (y : X) → i < length xs → slice_get (slice_set xs i y) i ≡ Some y
set_here [] i y less = absurd (omega arith)
set_here (x ∷ xs) zero y less = refl
set_here (x ∷ xs) (suc i) y less = set_here xs i y (omega arith)

set_length : {X : Type 0} (xs : List X) (i : ℕ) (y : X) → length (slice_set xs i y) ≡ length xs
set_length [] i y = refl
set_length (x ∷ xs) zero y = refl
set_length (x ∷ xs) (suc i) y = ap suc (set_length xs i y)

map_same : {X Y : Type 0} (f g : X → Y) (xs : List X) → ((k : ℕ) (x : X) → slice_get xs k ≡ Some x → f x ≡ g x) → map f xs ≡ map g xs
map_same f g [] same = refl
map_same f g (x ∷ xs) same = ap (λ y. y ∷ map f xs) (same 0 x refl) ∙ ap (λ l. g x ∷ l) (map_same f g xs (λ k y is. same (suc k) y is))

-- the rows of a document do not hang on the roots

abbrev set_rows : List Row → ℕ → (Row → Row) → Option Row → List Row
set_rows xs n f None = xs
set_rows xs n f (Some x) = slice_set xs n (f x)

edited_rows : (d : Doc) (n : ℕ) (f : Row → Row) → (edited d n f).rows ≡ set_rows d.rows n f (slice_get d.rows n)
edited_rows d n f = at (row_at d n)
  where
    at : (o : Option Row) → (edited_row d n f o).rows ≡ set_rows d.rows n f o
    at None = refl
    at (Some x) = refl

edited_top : (d : Doc) (n : ℕ) (f : Row → Row) → (edited d n f).top ≡ d.top
edited_top d n f = at (row_at d n)
  where
    at : (o : Option Row) → (edited_row d n f o).top ≡ d.top
    at None = refl
    at (Some x) = refl

edited_roots : (d : Doc) (n : ℕ) (f : Row → Row) → (edited d n f).roots ≡ d.roots
edited_roots d n f = at (row_at d n)
  where
    at : (o : Option Row) → (edited_row d n f o).roots ≡ d.roots
    at None = refl
    at (Some x) = refl

record SameRows (d e : Doc) : Type 0 where
  rows : d.rows ≡ e.rows
  top : d.top ≡ e.top

listed_same : (p : Parent) (c : ℕ) (d e : Doc) → SameRows d e → SameRows (listed p c d) (listed p c e)
listed_same Detached c d e b = b
listed_same Document c d e b = record { rows = b.rows; top = ap (λ l. l ++ c ∷ []) b.top }
listed_same (under_node p) c d e b =
    let f : Row → Row = λ r. over (r.children ++ c ∷ []) r in
    record { rows = edited_rows d p f ∙ ap (λ xs. set_rows xs p f (slice_get xs p)) b.rows ∙ sym (edited_rows e p f); top = edited_top d p f ∙ b.top ∙ sym (edited_top e p f) }

listed_roots : (p : Parent) (c : ℕ) (d : Doc) → (listed p c d).roots ≡ d.roots
listed_roots Detached c d = refl
listed_roots Document c d = refl
listed_roots (under_node p) c d = edited_roots d p (λ r. over (r.children ++ c ∷ []) r)

-- the nodes of a root, with one more where that is of it

abbrev hit : Bool → ℕ → List ℕ
hit b n = cond b (n ∷ []) []

owned_nodes : (o : Option ℕ) (n : ℕ) (roots : List (List ℕ)) (r : ℕ) → r < length roots → nodes_of (with_owned o n roots) r ≡ nodes_of roots r ++ hit (is_node r o) n
owned_nodes None n roots r less = none_more (nodes_of roots r)
owned_nodes (Some q) n roots r less = at (nat_eq q r) refl
  where
    at : (b : Bool) → nat_eq q r ≡ b → nodes_of (slice_set roots q (nodes_of roots q ++ n ∷ [])) r ≡ nodes_of roots r ++ hit b n
    at true is =
        let same = eqb-true q r is in
        ap (λ i. nodes_of (slice_set roots i (nodes_of roots i ++ n ∷ [])) r) same ∙ ap nodes_in (set_here roots r (nodes_of roots r ++ n ∷ []) less)
    at false other =
        ap nodes_in (get_set_other roots r q (nodes_of roots q ++ n ∷ []) (λ same. true≢false (sym (eq-eqb q r (sym same)) ∙ other))) ∙ none_more (nodes_of roots r)

owned_length : (o : Option ℕ) (n : ℕ) (roots : List (List ℕ)) → length (with_owned o n roots) ≡ length roots
owned_length None n roots = refl
owned_length (Some q) n roots = set_length roots q (nodes_of roots q ++ n ∷ [])

-- two documents of the same rows, in which two roots have the same ones
record Along (r s : ℕ) (d e : Doc) : Type 0 where
  same : SameRows d e
  nodes : nodes_of d.roots r ≡ nodes_of e.roots s
  here : r < length d.roots
  there : s < length e.roots

joined_nodes : (p : Parent) (o : Option ℕ) (c : NewNode) (attrs : List Attr) (d : Doc) (r : ℕ) → r < length d.roots → nodes_of (joined p o c attrs d).roots r ≡ nodes_of d.roots r ++ hit (is_node r o) (length d.rows)
joined_nodes p o c attrs d r less = ap (λ x. nodes_of x r) (listed_roots p (length d.rows) (with_node p o c attrs d)) ∙ owned_nodes o (length d.rows) d.roots r less

joined_length : (p : Parent) (o : Option ℕ) (c : NewNode) (attrs : List Attr) (d : Doc) → length (joined p o c attrs d).roots ≡ length d.roots
joined_length p o c attrs d = ap length (listed_roots p (length d.rows) (with_node p o c attrs d)) ∙ owned_length o (length d.rows) d.roots

joined_along : (r s : ℕ) (p : Parent) (o q : Option ℕ) (c : NewNode) (attrs : List Attr) (d e : Doc) → is_node r o ≡ is_node s q → Along r s d e → Along r s (joined p o c attrs d) (joined p q c attrs e)
joined_along r s p o q c attrs d e alike h =
    let n : length d.rows ≡ length e.rows = ap length h.same.rows in
    let begun : SameRows (with_node p o c attrs d) (with_node p q c attrs e) = record { rows = ap (λ xs. xs ++ record { parent = p; children = []; content = c; attrs = attrs } ∷ []) h.same.rows; top = h.same.top } in
    record {
      same = subst (λ k. SameRows (joined p o c attrs d) (listed p k (with_node p q c attrs e))) n (listed_same p (length d.rows) (with_node p o c attrs d) (with_node p q c attrs e) begun);
      nodes = joined_nodes p o c attrs d r h.here
          ∙ ap (λ l. l ++ hit (is_node r o) (length d.rows)) h.nodes
          ∙ ap (λ b. nodes_of e.roots s ++ hit b (length d.rows)) alike
          ∙ ap (λ k. nodes_of e.roots s ++ hit (is_node s q) k) n
          ∙ sym (joined_nodes p q c attrs e s h.there);
      here = subst (λ k. r < k) (sym (joined_length p o c attrs d)) h.here;
      there = subst (λ k. s < k) (sym (joined_length p q c attrs e)) h.there;
    }

-- which root an element belongs to

tells : (ids : List (List ℕ)) (r : ℕ) (id : List ℕ) → granted ids (Some id) ≡ Some r → (x : List ℕ) → is_node r (granted ids (Some x)) ≡ same_units x id
tells ids r id is x = at (same_units x id) refl
  where
    named : (q : ℕ) (y : List ℕ) → granted ids (Some y) ≡ Some q → get_or ids q [] ≡ y
    named q y e = same_units-equal (get_or ids q []) y (position-Some (λ g. same_units g y) ids q [] e).1

    apart : (o : Option ℕ) → granted ids (Some x) ≡ o → same_units x id ≡ false → is_node r o ≡ false
    apart None e other = refl
    apart (Some q) e other =
        false_from_ne_true (nat_eq q r)
        (λ same. true≢false (sym (same_units-from_equal x id (sym (named q x e) ∙ ap (λ i. get_or ids i []) (eqb-true q r same) ∙ named r id is)) ∙ other))

    at : (b : Bool) → same_units x id ≡ b → is_node r (granted ids (Some x)) ≡ b
    at true same = ap (λ y. is_node r (granted ids (Some y))) (same_units-equal x id same) ∙ ap (is_node r) is ∙ eq-eqb r r refl
    at false other = apart (granted ids (Some x)) refl other

none_around : (s : ℕ) (b : Option ℕ) → one_if (is_some b && true) ≡ 0 → is_node s b ≡ false
none_around s None h = refl
none_around s (Some q) h = let wrong : 1 ≡ 0 = h in absurd (omega (arith, wrong))

module _ (ids others : List (List ℕ)) (id : List ℕ) (r s : ℕ) (is : granted ids (Some id) ≡ Some r) (also : granted others (Some id) ≡ Some s) where
  -- of an element within no root, or within one of the two, or within other roots
  root_same : (v : Option (List ℕ)) (a b : Option ℕ) → is_node r a ≡ is_node s b → one_if (is_some a && is_some (granted ids v)) ≡ 0 → one_if (is_some b && is_some (granted others v)) ≡ 0
      → is_node r (or_around a (granted ids v)) ≡ is_node s (or_around b (granted others v))
  root_same None a b same h k = same
  root_same (Some x) a b same h k = at (granted ids (Some x)) (granted others (Some x)) (tells ids r id is x) (tells others s id also x) h k
    where
      at : (o q : Option ℕ) → is_node r o ≡ same_units x id → is_node s q ≡ same_units x id → one_if (is_some a && is_some o) ≡ 0 → one_if (is_some b && is_some q) ≡ 0 → is_node r (or_around a o) ≡ is_node s (or_around b q)
      at None None e f h k = same
      at (Some i) (Some j) e f h k = e ∙ sym f
      at None (Some j) e f h k = same ∙ none_around s b k ∙ e ∙ sym f
      at (Some i) None e f h k = e ∙ sym f ∙ sym (none_around r a h) ∙ same

  added_along : (z : Sort) (x : Tree z) (p : Parent) (a b : Option ℕ) (d e : Doc) → is_node r a ≡ is_node s b → inside ids a z x ≡ 0 → inside others b z x ≡ 0 → Along r s d e → Along r s (add ids z x p a d) (add others z x p b e)
  added_along _ (text_node us) p a b d e same h k along = joined_along r s p a b (Text us) [] d e same along
  added_along _ (element tag xs ts) p a b d e same h k along =
      let v : Option (List ℕ) = value_at (codes "id") (attrs_from xs) in
      let o : Option ℕ = root_at ids a (attrs_from xs) in
      let q : Option ℕ = root_at others b (attrs_from xs) in
      let next = root_same v a b same (omega (arith, h)) (omega (arith, k)) in
      let d' : Doc = joined p o (Element tag) (attrs_from xs) d in
      let e' : Doc = joined p q (Element tag) (attrs_from xs) e in
      subst (λ n. Along r s (add ids many ts (under_node (length d.rows)) o d') (add others many ts (under_node n) q e')) (ap length along.same.rows)
      (added_along many ts (under_node (length d.rows)) o q d' e' next (omega (arith, h)) (omega (arith, k)) (joined_along r s p o q (Element tag) (attrs_from xs) d e next along))
  added_along _ none p a b d e same h k along = along
  added_along _ (more t ts) p a b d e same h k along =
      added_along many ts p a b (add ids one t p a d) (add others one t p b e) same (omega (arith, h)) (omega (arith, k)) (added_along one t p a b d e same (omega (arith, h)) (omega (arith, k)) along)

-- at first no root has nodes

no_nodes : (n r : ℕ) → nodes_of (replicate n []) r ≡ []
no_nodes zero r = refl
no_nodes (suc n) zero = refl
no_nodes (suc n) (suc r) = no_nodes n r

many_roots : (n : ℕ) → length (replicate n (let l : List ℕ = [] in l)) ≡ n
many_roots zero = refl
many_roots (suc n) = ap suc (many_roots n)

is_within : (ids : List (List ℕ)) (id : List ℕ) (r : ℕ) → granted ids (Some id) ≡ Some r → r < length (empty (length ids)).roots
is_within ids id r is = subst (λ n. r < n) (sym (many_roots (length ids))) (position-Some (λ g. same_units g id) ids r [] is).0

-- the same nodes are seen

module _ (d e : Doc) (r s : ℕ) (a : Reached d) (b : Reached e) (rows : d.rows ≡ e.rows) (nodes : nodes_of d.roots r ≡ nodes_of e.roots s) where
  stands : (n k : ℕ) → Stands d n r k → Stands e n s k
  stands n k is = b.owned.back n s k (ap (λ l. slice_get l k) (sym nodes) ∙ a.owned.to n r k is)

  same_number : (n k : ℕ) → Stands d n r k → local d n ≡ local e n
  same_number n k is = number_is d n r k is ∙ sym (number_is e n s k (stands n k is))

  same_children : (cs : List ℕ) → AreOf r d cs → map (local d) cs ≡ map (local e) cs
  same_children [] of = refl
  same_children (c ∷ cs) of = ap (λ k. k ∷ map (local d) cs) (same_number c (local d c) (stands_in d c r of.0)) ∙ ap (λ l. local e c ∷ l) (same_children cs of.1)

  same_parent : (n k : ℕ) → Stands d n r k → option_map (local d) (parent_seen (owner_of d n) (row_at d n)) ≡ option_map (local e) (parent_seen (owner_of e n) (row_at d n))
  same_parent n k is =
      let up : parent_seen (owner_of d n) (row_at d n) ≡ parent_seen (owner_of e n) (row_at d n) = ap (λ o. parent_seen o (row_at d n)) is ∙ sym (ap (λ o. parent_seen o (row_at d n)) (stands n k is)) in
      at (parent_seen (owner_of d n) (row_at d n)) refl ∙ ap (option_map (local e)) up
    where
      at : (o : Option ℕ) → parent_seen (owner_of d n) (row_at d n) ≡ o → option_map (local d) o ≡ option_map (local e) o
      at None up = refl
      at (Some p) up = ap Some (same_number p (local d p) (parent_is_seen d n r k p a is up))

  same_node : (n k : ℕ) → Stands d n r k → node_seen d n ≡ node_seen e n
  same_node n k is =
      let x : Option Row = row_at d n in
      let with_parts : Option ℕ → List ℕ → Node = λ parent children. record { tag = tag_or_text (tag_in x); text = text_or_empty (text_in x); attributes = pairs_in x; parent = parent; children = children } in
      ap (λ o. with_parts o (map (local d) (children_in x))) (same_parent n k is)
      ∙ ap (with_parts (option_map (local e) (parent_seen (owner_of e n) x))) (same_children (children_in x) (children-of r d n a (ap root_in is)))
      ∙ ap (λ xs. node_from e.owners n (slice_get xs n)) rows

  nodes_alike : nodes_seen d r ≡ nodes_seen e s
  nodes_alike = map_same (node_seen d) (node_seen e) (nodes_of d.roots r) (λ k n at. same_node n k (a.owned.back n r k at)) ∙ ap (map (node_seen e)) nodes

pub roots_begin_alike : RootsBeginAlike
roots_begin_alike ids others ts id r s g h is also =
    let start : Along r s (empty (length ids)) (empty (length others)) = record {
      same = record { rows = refl; top = refl };
      nodes = no_nodes (length ids) r ∙ sym (no_nodes (length others) s);
      here = is_within ids id r is;
      there = is_within others id s also;
    } in
    let along = added_along ids others id r s is also many ts Document None None (empty (length ids)) (empty (length others)) refl g.apart h.apart start in
    nodes_alike (from_clean ids ts) (from_clean others ts) r s (clean-reached ids ts g) (clean-reached others ts h) along.same.rows along.nodes
