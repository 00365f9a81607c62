-- Objects for the nodes of roots, one node after another.
use Rattle.std.proofs.Common.{◌≡◌, ◌≤◌, ℕ, zero, suc, List, [], ◌∷◌, Option, Some, None, length, refl, ap, ◌∙◌, arith}
use Rattle.std.specs.Prelude.{slice_get}
use Rattle.es3_heap.specs.Objects.{Objects}
use Rattle.doc_nodes.specs.Rows.{Doc, nodes_of, node_with}
use Rattle.dom_facets.specs.Facets.{Made, made_with, with_new, new_facet, node_facets, root_facets}

pub no_node_made : (root : ℕ) (d : Doc) (m : Made) → m ≡ node_facets root 0 d m
unfolding node_facets
no_node_made root d m = refl

-- one node more has its object
pub one_node_made : (root k n : ℕ) (d : Doc) (m : Made) (h g : Objects) (fs gs : List (Option ℕ)) → Some n ≡ node_with d root k → made_with h fs ≡ node_facets root k d m → g ≡ (new_facet n d h fs).heap → gs ≡ (new_facet n d h fs).facets
    → made_with g gs ≡ node_facets root (suc k) d m
unfolding node_facets
one_node_made root k n d m h g fs gs at is heap kept =
    ap (λ x. made_with x gs) heap
    ∙ ap (made_with (new_facet n d h fs).heap) kept
    ∙ ap (with_new (Some n) d) is
    ∙ ap (λ o. with_new o d (node_facets root k d m)) at

pub no_root_made : (d : Doc) (m : Made) → m ≡ root_facets 0 d m
unfolding root_facets
no_root_made d m = refl

-- one root more
pub one_root_made : (r : ℕ) (d : Doc) (m a b : Made) → a ≡ root_facets r d m → b ≡ node_facets r (length (nodes_of d.roots r)) d a → b ≡ root_facets (suc r) d m
unfolding root_facets
one_root_made r d m a b is made = made ∙ ap (node_facets r (length (nodes_of d.roots r)) d) is

pub no_more : (ns : List ℕ) (k : ℕ) → ◌≡◌ {A = Option ℕ} None (slice_get ns k) → length ns ≤ k
no_more [] k none = omega arith
no_more (n ∷ ns) zero none = cc (none)
no_more (n ∷ ns) (suc k) none = let rest = no_more ns k none in omega (arith, rest)
