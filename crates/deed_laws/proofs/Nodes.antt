-- Nodes at and below one of a root are of the root.
use Rattle.std.proofs.Common.{◌≡◌, ℕ, zero, suc, ◌+◌, ◌<◌, Bool, true, false, List, [], ◌∷◌, ◌++◌, Option, Some, None, cond, refl, sym, ap, ◌∙◌, arith}
use Rattle.std.specs.Prelude.{nat_eq, codes}
use Rattle.std.proofs.lemmas.Bool.{eqb-true, eq-eqb}
use Rattle.doc_nodes.specs.declared.node.Parent.{Parent}
use Rattle.doc_nodes.specs.declared.node.Parent.TheVariants.{Detached, Document, Node}
use Rattle.doc_nodes.specs.Rows.{Doc, row_at, parent_in, children_in, owner_of, parent_of, attr_in, is_value, is_granted}
use Rattle.doc_nodes.specs.Changes.{root_in}
use Rattle.doc_laws.specs.Forest.{one_if, times, is_list_of}
use Rattle.doc_laws.specs.Reached.{Reached}
use Rattle.doc_laws.proofs.Climbs.{stands_under}
use Rattle.doc_laws.proofs.Within.{under-of, above-of}
use Rattle.node_deeds.specs.declared.deeds.Asked.{Asked}
use Rattle.node_deeds.specs.Told.{told_node, told_text}
use Rattle.node_deeds.specs.Walk.{walk}
use Rattle.node_deeds.specs.Deeds.{told_or_null, first_with}
use Rattle.deed_laws.specs.Deeds.{AreOf, IsToldOf}

pub of-append : (r : ℕ) (d : Doc) (ns ms : List ℕ) → AreOf r d ns → AreOf r d ms → AreOf r d (ns ++ ms)
of-append r d [] ms a b = b
of-append r d (n ∷ ns) ms a b = (a.0, of-append r d ns ms a.1 b)

-- what a list has in front, and behind it
pub is_there : (n : ℕ) (ns : List ℕ) → 0 < times n (n ∷ ns)
is_there n ns = let self : one_if (nat_eq n n) ≡ 1 = ap one_if (eq-eqb n n refl) in omega (arith, self)

pub still_there : (m n : ℕ) (ns : List ℕ) → 0 < times m ns → 0 < times m (n ∷ ns)
still_there m n ns more = omega (arith, more)

-- each of a list
of_each : (r : ℕ) (d : Doc) (ns : List ℕ) → ((m : ℕ) → 0 < times m ns → root_in (owner_of d m) ≡ Some r) → AreOf r d ns
of_each r d [] each = tt
of_each r d (n ∷ ns) each =
    (each n (is_there n ns), of_each r d ns (λ m more. each m (still_there m n ns more)))

-- what stands in the list of a node stands under it
pub stands_there : (d : Doc) (n m : ℕ) → Reached d → 0 < times m (children_in (row_at d n)) → parent_in (row_at d m) ≡ Node n
stands_there d n m a more = at (parent_in (row_at d m)) refl (a.forest.listed (Node n) m)
  where
    at : (x : Parent) → parent_in (row_at d m) ≡ x → times m (children_in (row_at d n)) ≡ one_if (is_list_of (Node n) x) → parent_in (row_at d m) ≡ Node n
    at Detached h once = absurd (omega (arith, more, once))
    at Document h once = absurd (omega (arith, more, once))
    at (Node q) h once =
        let cases = elim (nat_eq n q) as (λ b. nat_eq n q ≡ b → times m (children_in (row_at d n)) ≡ one_if b → parent_in (row_at d m) ≡ Node n) [
          | true ↦ λ same one. h ∙ ap (λ k. Node k) (sym (eqb-true n q same))
          | false ↦ λ other none. absurd (omega (arith, more, none))
        ] in cases refl once

-- the children of a node of a root
pub children-of : (r : ℕ) (d : Doc) (n : ℕ) → Reached d → root_in (owner_of d n) ≡ Some r → AreOf r d (children_in (row_at d n))
children-of r d n a is = of_each r d (children_in (row_at d n)) (λ m more. under-of d m n r a (stands_there d n m a more) is)

-- nodes of a root with what is below them
pub walk-of : (k r : ℕ) (d : Doc) (ns : List ℕ) → Reached d → AreOf r d ns → AreOf r d (walk k d ns)
unfolding walk
walk-of zero r d ns a is = tt
walk-of (suc k) r d [] a is = tt
walk-of (suc k) r d (n ∷ ns) a is =
    of-append r d (n ∷ walk k d (children_in (row_at d n))) (walk (suc k) d ns)
    (is.0, walk-of k r d (children_in (row_at d n)) a (children-of r d n a is.0))
    (walk-of (suc k) r d ns a is.1)

-- the first of them with an id
pub first-of : (r : ℕ) (d : Doc) (q : Asked) (id ns : List ℕ) → AreOf r d ns → IsToldOf r q d (told_or_null told_node (first_with id d ns))
first-of r d q id [] is = tt
first-of r d q id (n ∷ ns) is =
    elim (is_value id (attr_in (row_at d n) (codes "id"))) as (λ b. IsToldOf r q d (told_or_null told_node (cond b (Some n) (first_with id d ns)))) [
      | true ↦ is.0
      | false ↦ first-of r d q id ns is.1
    ]

-- what a node of a root stands under
pub parent-of : (r : ℕ) (d : Doc) (q : Asked) (n : ℕ) → Reached d → root_in (owner_of d n) ≡ Some r → IsToldOf r q d (told_or_null told_node (cond (is_granted (owner_of d n)) None (parent_of d n)))
parent-of r d q n a is = at (is_granted (owner_of d n)) (parent_of d n) refl refl
  where
    at : (b : Bool) (o : Option ℕ) → is_granted (owner_of d n) ≡ b → parent_of d n ≡ o → IsToldOf r q d (told_or_null told_node (cond b None o))
    at true o lent h = tt
    at false None lent h = tt
    at false (Some p) lent h = above-of d n p r a (stands_under (parent_in (row_at d n)) p h) lent is

-- a text, or null
pub no_nodes : (r : ℕ) (d : Doc) (q : Asked) (o : Option (List ℕ)) → IsToldOf r q d (told_or_null told_text o)
no_nodes r d q None = tt
no_nodes r d q (Some us) = tt
