-- The objects of some nodes, one after another.
use Rattle.std.proofs.Common.{◌≡◌, ℕ, List, [], ◌∷◌, ◌++◌, Option, append_assoc, append-nil, sym, ap, ◌∙◌}
use Rattle.es3_objects.specs.declared.value.Value.{Value}
use Rattle.es3_objects.specs.declared.value.Value.TheVariants as v
use Rattle.es3_heap.specs.Objects.{Objects}
use Rattle.doc_nodes.specs.Rows.{Doc}
use Rattle.dom_facets.specs.Facets.{facet, facets}

-- one node more has its object
module _ (n : ℕ) (xs ys : List ℕ) (d : Doc) (h g : Objects) (fs gs : List (Option ℕ)) (split : xs ≡ n ∷ ys) (heap : g ≡ (facet n d h fs).heap) (kept : gs ≡ (facet n d h fs).facets) where
  pub more_values : (o : ℕ) (before after whole : List Value) → o ≡ (facet n d h fs).object → after ≡ before ++ v.Obj o ∷ [] → before ++ (facets xs d h fs).values ≡ whole → after ++ (facets ys d g gs).values ≡ whole
  unfolding facets
  more_values o before after whole object push is =
      let f = facet n d h fs in
      ap (λ l. l ++ (facets ys d g gs).values) push
      ∙ append_assoc before (v.Obj o ∷ []) (facets ys d g gs).values
      ∙ ap (λ q. before ++ (v.Obj q ∷ (facets ys d g gs).values)) object
      ∙ ap (λ k. before ++ (v.Obj f.object ∷ (facets ys d k gs).values)) heap
      ∙ ap (λ l. before ++ (v.Obj f.object ∷ (facets ys d f.heap l).values)) kept
      ∙ ap (λ l. before ++ (facets l d h fs).values) (sym split)
      ∙ is

  pub more_heap : (whole : Objects) → (facets xs d h fs).heap ≡ whole → (facets ys d g gs).heap ≡ whole
  unfolding facets
  more_heap whole is =
      let f = facet n d h fs in
      ap (λ k. (facets ys d k gs).heap) heap ∙ ap (λ l. (facets ys d f.heap l).heap) kept ∙ ap (λ l. (facets l d h fs).heap) (sym split) ∙ is

  pub more_facets : (whole : List (Option ℕ)) → (facets xs d h fs).facets ≡ whole → (facets ys d g gs).facets ≡ whole
  unfolding facets
  more_facets whole is =
      let f = facet n d h fs in
      ap (λ k. (facets ys d k gs).facets) heap ∙ ap (λ l. (facets ys d f.heap l).facets) kept ∙ ap (λ l. (facets l d h fs).facets) (sym split) ∙ is

-- no node is left
module _ (xs : List ℕ) (d : Doc) (h : Objects) (fs : List (Option ℕ)) (none : xs ≡ []) where
  pub all_values : (before whole : List Value) → before ++ (facets xs d h fs).values ≡ whole → before ≡ whole
  unfolding facets
  all_values before whole is = sym (append-nil before) ∙ ap (λ l. before ++ (facets l d h fs).values) (sym none) ∙ is

  pub all_heap : (whole : Objects) → (facets xs d h fs).heap ≡ whole → h ≡ whole
  unfolding facets
  all_heap whole is = ap (λ l. (facets l d h fs).heap) (sym none) ∙ is

  pub all_facets : (whole : List (Option ℕ)) → (facets xs d h fs).facets ≡ whole → fs ≡ whole
  unfolding facets
  all_facets whole is = ap (λ l. (facets l d h fs).facets) (sym none) ∙ is
