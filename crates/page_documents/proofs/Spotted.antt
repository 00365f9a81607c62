-- Where an id of a granted root stands in a document, an element begins the root.
use Rattle.std.proofs.Common.{◌≡◌, ℕ, ◌+◌, ◌<◌, Bool, true, false, true≢false, ◌||◌, List, [], ◌∷◌, ◌++◌, cond, Option, Some, None, refl, sym, ap, ◌∙◌, inl, inr, arith}
use Rattle.std.specs.Prelude.{◌⊎◌, codes, is_some}
use Rattle.std.proofs.lemmas.Bool.{eq-eqb, or_cases}
use Rattle.caja_units.specs.Units.{same_units}
use Rattle.caja_units.proofs.Texts.{same_units-equal}
use Rattle.html_grammar.specs.Trees.{Sort, one, many, Tree, text_node, element, none, more}
use Rattle.doc_nodes.specs.Rows.{value_at}
use Rattle.doc_nodes.specs.Changes.{granted, is_node}
use Rattle.doc_tree.specs.Cleaned.{attrs_from}
use Rattle.doc_laws.specs.Forest.{one_if}
use Rattle.doc_laws.specs.Reached.{begins}
use Rattle.page_binding.specs.Spots.{Spot, spots, spot_and, spot_of}
use Rattle.page_binding.proofs.Names.{either_way}

module _ (ids : List (List ℕ)) (r : ℕ) (id : List ℕ) (is : granted ids (Some id) ≡ Some r) where
  abbrev stands : List Spot → Bool
  stands ss = is_some (spot_of ss id)

  stands-append : (xs ys : List Spot) → stands (xs ++ ys) ≡ (stands xs || stands ys)
  stands-append [] ys = refl
  stands-append (s ∷ xs) ys =
      elim (same_units id s.id) as (λ b. is_some (cond b (Some s) (spot_of (xs ++ ys) id)) ≡ (is_some (cond b (Some s) (spot_of xs id)) || stands ys)) [
        | true ↦ refl
        | false ↦ stands-append xs ys
      ]

  one_more : (b : Bool) (n : ℕ) → (b ≡ true) ⊎ (0 < n) → 0 < one_if b + n
  one_more true n h = omega arith
  one_more false n (inl e) = absurd (true≢false (sym e))
  one_more false n (inr some) = omega (arith, some)

  this_one : (own : List ℕ) → same_units id own ≡ true → is_node r (granted ids (Some own)) ≡ true
  this_one own same = ap (λ x. is_node r (granted ids (Some x))) (sym (same_units-equal id own same)) ∙ ap (is_node r) is ∙ eq-eqb r r refl

  -- the first is it, or one behind it
  first_or : (own : List ℕ) (s : Spot) (ss : List Spot) → s.id ≡ own → stands (s ∷ ss) ≡ true → (same_units id own ≡ true) ⊎ (stands ss ≡ true)
  first_or own s ss same h = at (same_units id s.id) refl h
    where
      at : (b : Bool) → same_units id s.id ≡ b → is_some (cond b (Some s) (spot_of ss id)) ≡ true → (same_units id own ≡ true) ⊎ (stands ss ≡ true)
      at true e k = inl (ap (same_units id) (sym same) ∙ e)
      at false e k = inr k

  element_begins : (tag : List ℕ) (v : Option (List ℕ)) (path : List (List ℕ)) (n : ℕ) (content : List (List ℕ) → List Spot) → ((path : List (List ℕ)) → stands (content path) ≡ true → 0 < n)
      → stands (spot_and tag v path content) ≡ true → 0 < one_if (is_node r (granted ids v)) + n
  element_begins tag None path n content ih h = one_more (is_node r (granted ids None)) n (inr (ih path h))
  element_begins tag (Some own) path n content ih h =
      let s : Spot = record { id = own; tag = tag; around = path } in
      one_more (is_node r (granted ids (Some own))) n
      (either_way (first_or own s (content (own ∷ path)) refl h) (λ same. inl (this_one own same)) (λ there. inr (ih (own ∷ path) there)))

  pub begins_there : (s : Sort) (x : Tree s) (path : List (List ℕ)) → stands (spots s x path) ≡ true → 0 < begins ids r s x
  begins_there _ (text_node us) path h = absurd (true≢false (sym h))
  begins_there _ (element tag xs ts) path h =
      element_begins tag (value_at (codes "id") (attrs_from xs)) path (begins ids r many ts) (spots many ts) (begins_there many ts) h
  begins_there _ none path h = absurd (true≢false (sym h))
  begins_there _ (more x ts) path h =
      either_way (or_cases (stands (spots one x path)) (stands (spots many ts path)) (sym (stands-append (spots one x path) (spots many ts path)) ∙ h))
      (λ here. let first = begins_there one x path here in omega (arith, first))
      (λ there. let rest = begins_there many ts path there in omega (arith, rest))
