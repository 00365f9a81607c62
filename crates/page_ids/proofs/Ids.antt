-- What a page asks for is the one node that has the id.
use Rattle.std.proofs.Common.{◌≡◌, ℕ, zero, suc, ◌+◌, ◌<◌, Bool, true, false, ◌||◌, List, [], ◌∷◌, Option, Some, None, length, cond, refl, sym, ap, ◌∙◌, subst, arith}
use Rattle.std.specs.Prelude.{is_some, slice_get, codes}
use Rattle.std.specs.List.{list_any, position, position_from}
use Rattle.std.specs.Option.{unwrap_or}
use Rattle.std.proofs.lemmas.Bool.{true≢false, and_parts}
use Rattle.std.proofs.lemmas.Iterator.Adapters.{position_from-zero}
use Rattle.std.proofs.lemmas.List.Elements.{All-weaker}
use Rattle.caja_units.specs.Units.{same_units}
use Rattle.caja_units.proofs.Texts.{same_units-equal}
use Rattle.html_grammar.specs.Trees.{many, Tree}
use Rattle.es3_tokens.specs.Tokens.{is_one_of}
use Rattle.doc_nodes.specs.declared.node.NewNode.{NewNode}
use Rattle.doc_nodes.specs.declared.node.NewNode.TheVariants.{Element, Text}
use Rattle.doc_nodes.specs.Rows as rows
use Rattle.doc_nodes.specs.Rows.{Row, Doc, row_at, owner_of, nodes_of, node_with, tag_in, tag_in_content, attr_in, attr_in_content, value_at, is_value, find_id}
use Rattle.doc_nodes.specs.Changes.{root_in, granted, or_around}
use Rattle.doc_tree.specs.Cleaned.{from_clean}
use Rattle.doc_laws.specs.Owned.{Owned}
use Rattle.doc_laws.proofs.Lists.{there}
use Rattle.doc_laws.proofs.Joined.{clean-forest}
use Rattle.doc_views.specs.Seen.{nodes_seen, local, Stands}
use Rattle.node_deeds.specs.Deeds.{tag_or_text}
use Rattle.doc_views.proofs.Views.{number_is, stands_in, at_number, number_within, count_is_seen, attribute_is_seen}
use Rattle.rows.specs.Document.{Node, node_at, attribute}
use Rattle.rows.specs.Nodes.{has_id}
use Rattle.event_script.specs.Events.{Asked, a_call, a_click, an_input, a_tick}
use Rattle.page_manifest.specs.Page.{Page}
use Rattle.page_roots.specs.Roots.{roots_of, granted_roots, place_of, number_in}
use Rattle.page_binding.specs.Spots.{Spot, spots_in, spot_of, around_it}
use Rattle.page_binding.specs.Bound.{is_met, is_there, is_under, is_input, can_click, can_input}
use Rattle.page_binding.specs.Nodes.{node_of, owner_at}
use Rattle.page_binding.proofs.Names.{same_functions, same_both, itself}
use Rattle.page_ids.specs.Ids.{IsTheNode, IsAtNode, IdsAreNodes, BoundIdsAreNodes}
use Rattle.page_ids.proofs.Marks.{Mark, an_element, marks, id_at, tag_at, spot_is_mark, near, near_less, near_some, is_granted, root_at_mark}
use Rattle.page_ids.proofs.Marked.{id_in, Marked, clean_marked}
use Rattle.page_ids.proofs.Named.{one_has_it, granted_first}
use Rattle.page_ids.proofs.Bound.{IsFound, is_found}

-- ---- ids of rows

element_id : (tag : List ℕ) (o : Option Row) → tag_in o ≡ Some tag → attr_in o (codes "id") ≡ id_in o
element_id tag None e = cc
element_id tag (Some x) e = at x.content e
  where
    at : (c : NewNode) → tag_in_content c ≡ Some tag → attr_in_content c (codes "id") x.attrs ≡ value_at (codes "id") x.attrs
    at (Element t) f = refl
    at (Text us) f = cc

seen_row_id : (o : Option Row) (us : List ℕ) → attr_in o (codes "id") ≡ Some us → id_in o ≡ Some us
seen_row_id None us e = cc
seen_row_id (Some x) us e = at x.content e
  where
    at : (c : NewNode) → attr_in_content c (codes "id") x.attrs ≡ Some us → value_at (codes "id") x.attrs ≡ Some us
    at (Element t) f = f
    at (Text vs) f = cc

row_there : (o : Option Row) (id : List ℕ) → id_in o ≡ Some id → (x : Row) × (o ≡ Some x)
row_there None id e = absurd cc
row_there (Some x) id e = (x, refl)

has_some : (id : List ℕ) (o : Option (List ℕ)) → has_id id o ≡ true → o ≡ Some id
has_some id None h = absurd (true≢false (sym h))
has_some id (Some us) h = ap Some (sym (same_units-equal id us h))

value_some : (id : List ℕ) (o : Option (List ℕ)) → is_value id o ≡ true → o ≡ Some id
value_some id None h = absurd (true≢false (sym h))
value_some id (Some us) h = ap Some (same_units-equal us id h)

some_of : {A : Type 0} (o : Option A) → is_some o ≡ true → (a : A) × (o ≡ Some a)
some_of None h = absurd (true≢false (sym h))
some_of (Some a) h = (a, refl)

-- the one place at which a test passes
from_place : (f : Row → Bool) (k : ℕ) (xs : List Row) (n : ℕ) (x : Row) → slice_get xs n ≡ Some x → f x ≡ true → ((j : ℕ) (y : Row) → slice_get xs j ≡ Some y → f y ≡ true → j ≡ n) → position_from f k xs ≡ Some (k + n)
from_place f k [] n x e here only = cc
from_place f k (y ∷ ys) zero x e here only =
    let is : y ≡ x = cc in
    let same : k ≡ k + 0 = omega arith in
    ap (λ b. cond b (Some k) (position_from f (k + 1) ys)) (ap f is ∙ here) ∙ ap Some same
from_place f k (y ∷ ys) (suc n) x e here only =
    at (f y) refl (from_place f (k + 1) ys n x e here (λ j z at_j passes. let met : suc j ≡ suc n = only (suc j) z at_j passes in omega (arith, met)))
  where
    at : (b : Bool) → f y ≡ b → position_from f (k + 1) ys ≡ Some (k + 1 + n) → cond b (Some k) (position_from f (k + 1) ys) ≡ Some (k + suc n)
    at true h rest = let met : 0 ≡ suc n = only 0 y refl h in absurd (omega (arith, met))
    at false h rest = let same : k + 1 + n ≡ k + suc n = omega arith in rest ∙ ap Some same

one_position : (f : Row → Bool) (xs : List Row) (n : ℕ) (x : Row) → slice_get xs n ≡ Some x → f x ≡ true → ((j : ℕ) (y : Row) → slice_get xs j ≡ Some y → f y ≡ true → j ≡ n) → position f xs ≡ Some n
one_position f xs n x e here only = let same : 0 + n ≡ n = omega arith in position_from-zero f xs ∙ from_place f 0 xs n x e here only ∙ ap Some same

module _ (p : Page) (ts : Tree many) (found : IsFound p ts) where
  abbrev roots : List (List ℕ)
  roots = granted_roots p

  abbrev d : Doc
  d = from_clean roots ts

  abbrev ms : List Mark
  ms = marks many ts []

  marked : Marked roots d ms
  marked = clean_marked roots ts

  owned : Owned d
  owned = (clean-forest roots ts).1

  seen_id : (n r k : ℕ) → Stands d n r k → attribute (codes "id") (node_at (nodes_seen d r) k).attributes ≡ attr_in (row_at d n) (codes "id")
  seen_id n r k is = ap (λ (o : Node). attribute (codes "id") o.attributes) (at_number d n r k owned is) ∙ attribute_is_seen d n (codes "id")

  one_row : (m n : ℕ) (id : List ℕ) → id_in (row_at d m) ≡ Some id → id_in (row_at d n) ≡ Some id → m ≡ n
  one_row m n id e f = one_has_it ts found.once m n id (sym (marked.ids m) ∙ e) (sym (marked.ids n) ∙ f)

  same_owner : (r j q k : ℕ) → ◌≡◌ {A = Option (ℕ × ℕ)} (Some (r, j)) (Some (q, k)) → (r ≡ q) × (j ≡ k)
  same_owner r j q k e =
      let both : ◌≡◌ {A = ℕ × ℕ} (r, j) (q, k) = ap (λ (o : Option (ℕ × ℕ)). unwrap_or o (0, 0)) e in
      (ap (λ (x : ℕ × ℕ). x.0) both, ap (λ (x : ℕ × ℕ). x.1) both)

  -- an element with an id, which stands in a root
  the_node : (n r : ℕ) (id tag : List ℕ) → id_in (row_at d n) ≡ Some id → tag_in (row_at d n) ≡ Some tag → root_in (owner_of d n) ≡ Some r → r < length roots → IsTheNode p d id r (local d n)
  the_node n r id tag has is_tag root less =
      let stands : Stands d n r (local d n) = stands_in d n r root in
      let own : attribute (codes "id") (node_at (nodes_seen d r) (local d n)).attributes ≡ Some id = seen_id n r (local d n) stands ∙ element_id tag (row_at d n) is_tag ∙ has in
      record {
        granted = less;
        has = (number_within d n r (local d n) owned stands, ap (has_id id) own ∙ itself id);
        only = λ q j other.
            let within : j < length (nodes_of d.roots q) = omega (arith, other.0, count_is_seen d q) in
            let m = there (nodes_of d.roots q) j within in
            let is : Stands d m.0 q j = owned.back m.0 q j m.1 in
            let its : id_in (row_at d m.0) ≡ Some id = seen_row_id (row_at d m.0) id (sym (seen_id m.0 q j is) ∙ has_some id (attribute (codes "id") (node_at (nodes_seen d q) j).attributes) other.1) in
            same_owner q j r (local d n) (sym is ∙ ap (owner_of d) (one_row m.0 n id its has) ∙ stands);
      }

  -- it is found by its id
  is_node_of : (n r : ℕ) (id : List ℕ) → id_in (row_at d n) ≡ Some id → root_in (owner_of d n) ≡ Some r → node_of d id ≡ (r, local d n)
  is_node_of n r id has root =
      let x = row_there (row_at d n) id has in
      let its : id_in (Some x.0) ≡ Some id = ap id_in (sym x.1) ∙ has in
      let passes : rows.has_id id x.0 ≡ true = ap (is_value id) its ∙ itself id in
      let at : find_id d id ≡ Some n = one_position (rows.has_id id) d.rows n x.0 x.1 passes (λ j y at_j too. one_row j n id (ap id_in at_j ∙ value_some id (value_at (codes "id") y.attrs) too) has) in
      ap (λ o. unwrap_or (owner_at d o) (0, 0)) at ∙ ap (λ o. unwrap_or o (0, 0)) (stands_in d n r root)

  -- an id that stands in the document, in a root
  record IsOf (id : List ℕ) (s : Spot) : Type 0 where
    pub place : ℕ
    pub root : ℕ
    pub mark : slice_get ms place ≡ Some (an_element s.tag (Some id) s.around)
    pub stands : near roots (id ∷ s.around) ≡ Some root

  module _ (id : List ℕ) (s : Spot) (o : IsOf id s) where
    its_id : id_in (row_at d o.place) ≡ Some id
    its_id = marked.ids o.place ∙ ap id_at o.mark

    its_tag : tag_in (row_at d o.place) ≡ Some s.tag
    its_tag = marked.tags o.place ∙ ap tag_at o.mark

    its_root : root_in (owner_of d o.place) ≡ Some o.root
    its_root = marked.stand o.place ∙ ap (root_at_mark roots) o.mark ∙ o.stands

    it_is : IsTheNode p d id o.root (local d o.place)
    it_is = the_node o.place o.root id s.tag its_id its_tag its_root (near_less roots (id ∷ s.around) o.root o.stands)

    named : node_of d id ≡ (o.root, local d o.place)
    named = is_node_of o.place o.root id its_id its_root

    at_its_node : IsTheNode p d id (node_of d id).0 (node_of d id).1
    at_its_node = subst (λ (x : ℕ × ℕ). IsTheNode p d id x.0 x.1) (sym named) it_is

    tag_seen : (node_at (nodes_seen d (node_of d id).0) (node_of d id).1).tag ≡ s.tag
    tag_seen =
        let stands : Stands d o.place o.root (local d o.place) = stands_in d o.place o.root its_root in
        ap (λ (x : ℕ × ℕ). (node_at (nodes_seen d x.0) x.1).tag) named ∙ ap (λ (x : Node). x.tag) (at_number d o.place o.root (local d o.place) owned stands) ∙ ap tag_or_text its_tag

  -- what may be clicked
  clicked : (id : List ℕ) → can_click (spots_in ts) roots id ≡ true → (s : Spot) × (spot_of (spots_in ts) id ≡ Some s) × IsOf id s
  clicked id h =
      let parts = and_parts (is_there (spots_in ts) id) (is_under (spots_in ts) roots id) h in
      let s = some_of (spot_of (spots_in ts) id) parts.0 in
      let m = spot_is_mark ts id s.0 s.1 in
      let under : list_any (λ b. is_one_of b roots) (id ∷ s.0.around) ≡ true = ap (λ o. is_one_of id roots || list_any (λ b. is_one_of b roots) (around_it o)) (sym s.1) ∙ parts.1 in
      let r = some_of (near roots (id ∷ s.0.around)) (near_some roots (id ∷ s.0.around) ∙ under) in
      (s.0, s.1, record { place = m.place; root = r.0; mark = m.mark; stands = r.1 })

  event_at : (e : Asked) → is_met (can_click (spots_in ts) roots) (can_input (spots_in ts) roots) e ≡ true → IsAtNode p d e
  event_at (a_call m key args) h = tt
  event_at (a_click id) h = let s = clicked id h in at_its_node id s.0 s.2
  event_at (an_input id us) h =
      let parts = and_parts (can_click (spots_in ts) roots id) (is_input (spot_of (spots_in ts) id)) h in
      let s = clicked id parts.0 in
      let input : same_units s.0.tag (codes "input") ≡ true = ap is_input (sym s.1) ∙ parts.1 in
      (at_its_node id s.0 s.2, tag_seen id s.0 s.2 ∙ same_units-equal s.0.tag (codes "input") input)
  event_at (a_tick m) h = tt

  -- the number of a root
  number_is_granted : (id : List ℕ) (r : ℕ) → granted roots (Some id) ≡ Some r → number_in (roots_of p) id ≡ r
  number_is_granted id r e =
      let same : place_of (roots_of p) id ≡ granted roots (Some id) = ap (λ f. position_from f 0 roots) (same_functions (same_units id) (λ g. same_units g id) (λ g. same_both id g)) ∙ sym (position_from-zero (λ g. same_units g id) roots) in
      ap (λ o. unwrap_or o 0) (same ∙ e)

  root_at_node : (id : List ℕ) → is_one_of id roots ≡ true → IsTheNode p d id (number_in (roots_of p) id) 0
  root_at_node id h =
      let s = some_of (spot_of (spots_in ts) id) (found.there id h) in
      let m = spot_is_mark ts id s.0 s.1 in
      let r = some_of (granted roots (Some id)) (is_granted roots id ∙ h) in
      let o : IsOf id s.0 = record { place = m.place; root = r.0; mark = m.mark; stands = ap (or_around (near roots s.0.around)) r.1 } in
      let first : node_with d r.0 0 ≡ Some m.place = ap (λ ns. slice_get ns 0) (marked.numbers r.0) ∙ granted_first roots ts found.once m.place s.0.tag id s.0.around r.0 m.mark r.1 in
      let zeroth : local d m.place ≡ 0 = number_is d m.place r.0 0 (owned.back m.place r.0 0 first) in
      subst (λ q. IsTheNode p d id q 0) (sym (number_is_granted id r.0 r.1)) (subst (λ k. IsTheNode p d id r.0 k) zeroth (it_is id s.0 o))

  pub all_are_nodes : IdsAreNodes p d
  all_are_nodes = record { roots = root_at_node; events = All-weaker (λ e. is_met (can_click (spots_in ts) roots) (can_input (spots_in ts) roots) e ≡ true) (IsAtNode p d) event_at p.events found.met }

pub ids_are_nodes : BoundIdsAreNodes
ids_are_nodes p ts ids e = all_are_nodes p ts (is_found p ts ids e)
