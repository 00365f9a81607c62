-- A granted root has a node, where an element has its id.
use Rattle.std.proofs.Common.{◌≡◌, ℕ, zero, suc, ◌+◌, ◌<◌, ◌≤◌, Bool, true, false, true≢false, List, [], ◌∷◌, ◌++◌, Option, Some, None, length, length-append, set, refl, sym, ap, ◌∙◌, subst, inl, inr, arith}
use Rattle.std.specs.Prelude.{◌⊎◌, codes}
use Rattle.std.proofs.Math.ListN.{length-set}
use Rattle.std.proofs.lemmas.Bool.{eqb-true, cases_lt}
use Rattle.std.proofs.lemmas.List.{length-replicate}
use Rattle.std.proofs.lemmas.List.Quantifiers.{position-Some}
use Rattle.caja_units.specs.Units.{same_units}
use Rattle.html_grammar.specs.Trees.{Sort, one, many, Tree, text_node, element, none, more}
use Rattle.html_tree.specs.declared.Attr.{Attr}
use Rattle.doc_nodes.specs.declared.node.Parent.{Parent}
use Rattle.doc_nodes.specs.declared.node.Parent.TheVariants.{Document, Node}
use Rattle.doc_nodes.specs.declared.node.NewNode.{NewNode}
use Rattle.doc_nodes.specs.declared.node.NewNode.TheVariants.{Element, Text}
use Rattle.doc_nodes.specs.Rows.{Doc, nodes_of, value_at}
use Rattle.doc_nodes.specs.Changes.{empty, with_owned, with_node, joined, granted, or_around, root_at, is_node}
use Rattle.doc_tree.specs.Cleaned.{attrs_from, add, from_clean}
use Rattle.doc_laws.specs.Forest.{one_if}
use Rattle.doc_laws.specs.Reached.{begins}
use Rattle.doc_laws.proofs.Edits.{same-listed}
use Rattle.doc_laws.proofs.Ownership.{next_of}
use Rattle.page_binding.proofs.Names.{either_way}

-- ---- how many nodes a root has, with a node more

set_more : (roots : List (List ℕ)) (q n r : ℕ) (ns : List ℕ) → length (nodes_of roots q) ≤ length ns → length (nodes_of roots r) ≤ length (nodes_of (set roots q ns) r)
set_more [] q n r ns h = omega arith
set_more (x ∷ xs) zero n zero ns h = h
set_more (x ∷ xs) zero n (suc r) ns h = omega arith
set_more (x ∷ xs) (suc q) n zero ns h = omega arith
set_more (x ∷ xs) (suc q) n (suc r) ns h = set_more xs q n r ns h

owned_more : (root : Option ℕ) (n : ℕ) (roots : List (List ℕ)) (r : ℕ) → length (nodes_of roots r) ≤ length (nodes_of (with_owned root n roots) r)
owned_more None n roots r = omega arith
owned_more (Some q) n roots r = set_more roots q n r (nodes_of roots q ++ n ∷ []) (omega (arith, length-append (nodes_of roots q) (n ∷ [])))

owned_count : (root : Option ℕ) (n : ℕ) (roots : List (List ℕ)) → length (with_owned root n roots) ≡ length roots
owned_count None n roots = refl
owned_count (Some q) n roots = length-set roots q (nodes_of roots q ++ n ∷ [])

module _ (p : Parent) (root : Option ℕ) (c : NewNode) (attrs : List Attr) (d : Doc) where
  abbrev after : Doc
  after = joined p root c attrs d

  roots_are : after.roots ≡ with_owned root (length d.rows) d.roots
  roots_are = (same-listed p (length d.rows) (with_node p root c attrs d)).1

  join_count : length after.roots ≡ length d.roots
  join_count = ap length roots_are ∙ owned_count root (length d.rows) d.roots

  join_more : (r : ℕ) → length (nodes_of d.roots r) ≤ length (nodes_of after.roots r)
  join_more r = subst (λ roots. length (nodes_of d.roots r) ≤ length (nodes_of roots r)) (sym roots_are) (owned_more root (length d.rows) d.roots r)

  join_begins : (r : ℕ) → root ≡ Some r → r < length d.roots → 0 < length (nodes_of after.roots r)
  join_begins r is less =
      let nodes : nodes_of after.roots r ≡ nodes_of d.roots r ++ length d.rows ∷ [] = ap (λ roots. nodes_of roots r) roots_are ∙ ap (λ o. nodes_of (with_owned o (length d.rows) d.roots) r) is ∙ next_of d.roots r (length d.rows) less in
      omega (arith, ap length nodes, length-append (nodes_of d.roots r) (length d.rows ∷ []))

-- ---- with trees more

add_count : (ids : List (List ℕ)) (s : Sort) (t : Tree s) (p : Parent) (around : Option ℕ) (d : Doc) → length (add ids s t p around d).roots ≡ length d.roots
add_count ids _ (text_node us) p around d = join_count p around (Text us) [] d
add_count ids _ (element tag xs ts) p around d =
    let root = root_at ids around (attrs_from xs) in
    add_count ids many ts (Node (length d.rows)) root (joined p root (Element tag) (attrs_from xs) d) ∙ join_count p root (Element tag) (attrs_from xs) d
add_count ids _ none p around d = refl
add_count ids _ (more t ts) p around d = add_count ids many ts p around (add ids one t p around d) ∙ add_count ids one t p around d

add_more : (ids : List (List ℕ)) (s : Sort) (t : Tree s) (p : Parent) (around : Option ℕ) (d : Doc) (r : ℕ) → length (nodes_of d.roots r) ≤ length (nodes_of (add ids s t p around d).roots r)
add_more ids _ (text_node us) p around d r = join_more p around (Text us) [] d r
add_more ids _ (element tag xs ts) p around d r =
    let root = root_at ids around (attrs_from xs) in
    let first = join_more p root (Element tag) (attrs_from xs) d r in
    let rest = add_more ids many ts (Node (length d.rows)) root (joined p root (Element tag) (attrs_from xs) d) r in
    omega (arith, first, rest)
add_more ids _ none p around d r = omega arith
add_more ids _ (more t ts) p around d r =
    let first = add_more ids one t p around d r in
    let rest = add_more ids many ts p around (add ids one t p around d) r in
    omega (arith, first, rest)

-- ---- where one of them has the id of a root

is_root : (r : ℕ) (o : Option ℕ) → is_node r o ≡ true → o ≡ Some r
is_root r None h = absurd (true≢false (sym h))
is_root r (Some q) h = ap Some (eqb-true q r h)

granted_within : (ids : List (List ℕ)) (id : Option (List ℕ)) (r : ℕ) → granted ids id ≡ Some r → r < length ids
granted_within ids None r h = cc
granted_within ids (Some id) r h = (position-Some (λ granted. same_units granted id) ids r [] h).0

-- it is the root of this element, or of one within it
this_or_within : (b : Bool) (n : ℕ) → 0 < one_if b + n → (b ≡ false → 0 < n) × ((b ≡ true) ⊎ (b ≡ false))
this_or_within true n h = (λ e. absurd (true≢false e), inl refl)
this_or_within false n h = (λ e. omega (arith, h), inr refl)

pub add_begins : (ids : List (List ℕ)) (r : ℕ) (s : Sort) (t : Tree s) (p : Parent) (around : Option ℕ) (d : Doc) → length d.roots ≡ length ids → 0 < begins ids r s t → 0 < length (nodes_of (add ids s t p around d).roots r)
add_begins ids r _ (text_node us) p around d count h = absurd (omega (arith, h))
add_begins ids r _ (element tag xs ts) p around d count h =
    let id = value_at (codes "id") (attrs_from xs) in
    let root = root_at ids around (attrs_from xs) in
    let j = joined p root (Element tag) (attrs_from xs) d in
    let parts = this_or_within (is_node r (granted ids id)) (begins ids r many ts) h in
    let inner = add_more ids many ts (Node (length d.rows)) root j r in
    either_way parts.1
    (λ yes.
    let it : granted ids id ≡ Some r = is_root r (granted ids id) yes in
    let less : r < length ids = granted_within ids id r it in
    let first = join_begins p root (Element tag) (attrs_from xs) d r (ap (or_around around) it) (omega (arith, less, count)) in
    omega (arith, first, inner))
    (λ no. add_begins ids r many ts (Node (length d.rows)) root j (join_count p root (Element tag) (attrs_from xs) d ∙ count) (parts.0 no))
add_begins ids r _ none p around d count h = absurd (omega (arith, h))
add_begins ids r _ (more t ts) p around d count h =
    let e = add ids one t p around d in
    either_way (cases_lt 0 (begins ids r one t))
    (λ here.
    let first = add_begins ids r one t p around d count here in
    let rest = add_more ids many ts p around e r in
    omega (arith, first, rest))
    (λ no. add_begins ids r many ts p around e (add_count ids one t p around d ∙ count) (omega (arith, h, no)))

pub clean_count : (ids : List (List ℕ)) (ts : Tree many) → length (from_clean ids ts).roots ≡ length ids
clean_count ids ts = add_count ids many ts Document None (empty (length ids)) ∙ length-replicate (length ids) []

pub clean_begins : (ids : List (List ℕ)) (r : ℕ) (ts : Tree many) → 0 < begins ids r many ts → 0 < length (nodes_of (from_clean ids ts).roots r)
clean_begins ids r ts h = add_begins ids r many ts Document None (empty (length ids)) (length-replicate (length ids) []) h
