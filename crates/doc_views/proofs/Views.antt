-- How nodes of a root are seen by their numbers.
use Rattle.std.proofs.Common.{◌≡◌, ℕ, ◌<◌, Bool, true, false, List, [], ◌∷◌, Option, Some, None, length, cond, refl, sym, ap, ◌∙◌, subst, arith}
use Rattle.std.specs.Prelude.{map}
use Rattle.std.specs.Option.{option_map}
use Rattle.std.proofs.lemmas.Option.{slice_get-map, slice_get_within}
use Rattle.std.proofs.lemmas.List.{length-map}
use Rattle.caja_units.specs.Units.{same_units}
use Rattle.caja_units.proofs.Texts.{same_units-equal, same_units-from_equal}
use Rattle.html_tree.specs.declared.Attr.{Attr}
use Rattle.doc_nodes.specs.declared.node.NewNode.{NewNode}
use Rattle.doc_nodes.specs.declared.node.NewNode.TheVariants.{Element, Text}
use Rattle.doc_nodes.specs.Rows.{Row, Doc, row_at, parent_in, children_in, owner_of, nodes_of, node_with, parent_of, attr_in, value_at, is_granted, attr_in_content}
use Rattle.doc_nodes.specs.Changes.{root_in}
use Rattle.doc_laws.specs.Forest.{times}
use Rattle.doc_laws.specs.Owned.{Owned}
use Rattle.doc_laws.specs.Reached.{Reached}
use Rattle.doc_laws.proofs.Climbs.{stands_under}
use Rattle.doc_laws.proofs.Within.{under-of, above-of}
use Rattle.node_deeds.specs.Deeds.{number_in, lent_parent}
use Rattle.deed_laws.proofs.Nodes.{is_there, still_there, stands_there}
use Rattle.deed_laws.proofs.Deeds.{owner_there}
use Rattle.rows.specs.Document.{Node, node_at, or_no_node, of_parent, attribute}
use Rattle.rows.specs.Branches.{parents}
use Rattle.doc_views.specs.Seen.{local, pair_of, node_seen, nodes_seen, Stands, AllStand, pairs_in, pairs_in_content}

-- a node that stands in a root
pub there_in : (d : Doc) (n r k : ℕ) → Owned d → Stands d n r k → n < length d.rows
there_in d n r k o is = owner_there d n r o (ap root_in is)

pub number_is : (d : Doc) (n r k : ℕ) → Stands d n r k → local d n ≡ k
number_is d n r k is = ap number_in is

-- what is of a root stands there, with its number
pub stands_in : (d : Doc) (n r : ℕ) → ◌≡◌ {A = Option ℕ} (root_in (owner_of d n)) (Some r) → Stands d n r (local d n)
stands_in d n r is = at (owner_of d n) is
  where
    at : (o : Option (ℕ × ℕ)) → root_in o ≡ Some r → o ≡ Some (r, number_in o)
    at None h = cc
    at (Some o) h = let one : o.0 ≡ r = cc in ap (λ x. Some (x, o.1)) one

one_number : (r k j : ℕ) → ◌≡◌ {A = Option (ℕ × ℕ)} (Some (r, k)) (Some (r, j)) → k ≡ j
one_number r k j h = ap number_in h

-- a root has a node at one place
pub one_place : (d : Doc) (n r k j : ℕ) → Owned d → Stands d n r k → ◌≡◌ {A = Option ℕ} (node_with d r j) (Some n) → j ≡ k
one_place d n r k j o is at = sym (one_number r k j (sym is ∙ o.back n r j at))

-- and a place one node
pub one_node : (d : Doc) (n m r k : ℕ) → Owned d → Stands d n r k → Stands d m r k → n ≡ m
one_node d n m r k o is at =
    let both : ◌≡◌ {A = Option ℕ} (Some n) (Some m) = sym (o.to n r k is) ∙ o.to m r k at in cc (both)

pub at_number : (d : Doc) (n r k : ℕ) → Owned d → Stands d n r k → node_at (nodes_seen d r) k ≡ node_seen d n
at_number d n r k o is = ap or_no_node (slice_get-map (node_seen d) (nodes_of d.roots r) k ∙ ap (option_map (node_seen d)) (o.to n r k is))

pub number_within : (d : Doc) (n r k : ℕ) → Owned d → Stands d n r k → k < length (nodes_seen d r)
number_within d n r k o is = omega (arith, slice_get_within (nodes_of d.roots r) k n (o.to n r k is), length-map (nodes_of d.roots r) (node_seen d))

pub node_is_seen : (d : Doc) (n r k : ℕ) → Reached d → Stands d n r k → (k < length (nodes_seen d r)) × (node_at (nodes_seen d r) k ≡ node_seen d n)
node_is_seen d n r k a is = (number_within d n r k a.owned is, at_number d n r k a.owned is)

pub count_is_seen : (d : Doc) (r : ℕ) → length (nodes_seen d r) ≡ length (nodes_of d.roots r)
count_is_seen d r = length-map (nodes_of d.roots r) (node_seen d)

pub parents_are_seen : (d : Doc) (n r k : ℕ) → Reached d → Stands d n r k → parents (nodes_seen d r) k ≡ of_parent (λ p. local d p ∷ []) (lent_parent d n)
parents_are_seen d n r k a is = ap (λ (x : Node). of_parent (λ p. p ∷ []) x.parent) (at_number d n r k a.owned is) ∙ mapped (lent_parent d n)
  where
    mapped : (o : Option ℕ) → of_parent (λ p. p ∷ []) (option_map (local d) o) ≡ of_parent (λ p. local d p ∷ []) o
    mapped None = refl
    mapped (Some p) = refl

pub numbers_are_seen : (d : Doc) (n r k : ℕ) → Reached d → Stands d n r k → (node_at (nodes_seen d r) k).children ≡ map (local d) (children_in (row_at d n))
numbers_are_seen d n r k a is = ap (λ (x : Node). x.children) (at_number d n r k a.owned is)

-- what a node of a root stands under
pub parent_is_seen : (d : Doc) (n r k p : ℕ) → Reached d → Stands d n r k → ◌≡◌ {A = Option ℕ} (lent_parent d n) (Some p) → Stands d p r (local d p)
parent_is_seen d n r k p a is up = at (is_granted (owner_of d n)) refl up
  where
    at : (b : Bool) → is_granted (owner_of d n) ≡ b → ◌≡◌ {A = Option ℕ} (cond b None (parent_of d n)) (Some p) → Stands d p r (local d p)
    at true lent h = cc
    at false lent h = stands_in d p r (above-of d n p r a (stands_under (parent_in (row_at d n)) p h) lent (ap root_in is))

-- a child of a node of a root
pub child_in : (d : Doc) (n r k m : ℕ) → Reached d → Stands d n r k → 0 < times m (children_in (row_at d n)) → Stands d m r (local d m)
child_in d n r k m a is more = stands_in d m r (under-of d m n r a (stands_there d n m a more) (ap root_in is))

pub all_stand : (d : Doc) (r : ℕ) (ns : List ℕ) → ((m : ℕ) → 0 < times m ns → Stands d m r (local d m)) → AllStand d r ns (map (local d) ns)
all_stand d r [] each = tt
all_stand d r (n ∷ ns) each = (each n (is_there n ns), all_stand d r ns (λ m more. each m (still_there m n ns more)))

pub children_are_seen : (d : Doc) (n r k : ℕ) → Reached d → Stands d n r k → AllStand d r (children_in (row_at d n)) (node_at (nodes_seen d r) k).children
children_are_seen d n r k a is =
    subst (λ (x : Node). AllStand d r (children_in (row_at d n)) x.children) (sym (at_number d n r k a.owned is))
    (all_stand d r (children_in (row_at d n)) (λ m more. child_in d n r k m a is more))

-- an attribute, whichever way its name is compared
pub same_units-sym : (us vs : List ℕ) → same_units us vs ≡ same_units vs us
same_units-sym us vs =
    let cases = elim (same_units us vs) as (λ b. same_units us vs ≡ b → b ≡ same_units vs us) [
      | true ↦ λ same. sym (same_units-from_equal vs us (sym (same_units-equal us vs same)))
      | false ↦ λ other. sym (not_same (same_units vs us) refl other)
    ] in cases refl
  where
    not_same : (b : Bool) → same_units vs us ≡ b → same_units us vs ≡ false → b ≡ false
    not_same true h other = let yes : same_units us vs ≡ true = same_units-from_equal us vs (sym (same_units-equal vs us h)) in cc (yes, other)
    not_same false h other = refl

pub attribute_at : (name : List ℕ) (attrs : List Attr) → attribute name (map pair_of attrs) ≡ value_at name attrs
attribute_at name [] = refl
attribute_at name (x ∷ attrs) =
    ap (λ b. cond b (Some x.value) (attribute name (map pair_of attrs))) (same_units-sym name x.name)
    ∙ ap (λ (o : Option (List ℕ)). cond (same_units x.name name) (Some x.value) o) (attribute_at name attrs)

pub attribute_is_seen : (d : Doc) (n : ℕ) (name : List ℕ) → attribute name (node_seen d n).attributes ≡ attr_in (row_at d n) name
attribute_is_seen d n name = at (row_at d n)
  where
    of : (c : NewNode) (attrs : List Attr) → attribute name (pairs_in_content c attrs) ≡ attr_in_content c name attrs
    of (Element tag) attrs = attribute_at name attrs
    of (Text us) attrs = refl

    at : (x : Option Row) → attribute name (pairs_in x) ≡ attr_in x name
    at None = refl
    at (Some x) = of x.content x.attrs
