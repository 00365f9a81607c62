-- A document in which no id stands twice, and no granted root inside another, may be made with these roots.
use Rattle.std.proofs.Common.{◌≡◌, ℕ, ◌+◌, ◌≤◌, Bool, true, false, ◌||◌, ◌&&◌, List, [], ◌∷◌, ◌++◌, length, get_or, cond, Option, Some, None, refl, sym, ap, ◌∙◌, subst, arith}
use Rattle.std.specs.Prelude.{All, is_some, codes, nat_eq}
use Rattle.std.specs.List.{list_any, position, position_from}
use Rattle.std.specs.Map.{keys_of}
use Rattle.std.proofs.lemmas.Bool.{true≢false, false_from_ne_true, cases_Bool, eqb-true, or_right, or_left}
use Rattle.std.proofs.lemmas.List.Elements.{All-nil, All-cons, All-head, All-tail, All-append}
use Rattle.std.proofs.lemmas.Iterator.Adapters.{position_from-zero}
use Rattle.std.proofs.lemmas.List.Quantifiers.{position-Some}
use Rattle.html_grammar.specs.Trees.{Sort, one, many, Tree, text_node, element, none, more}
use Rattle.caja_units.specs.Units.{same_units}
use Rattle.caja_units.proofs.Texts.{same_units-equal}
use Rattle.es3_tokens.specs.Tokens.{is_one_of}
use Rattle.doc_nodes.specs.Rows.{value_at}
use Rattle.doc_nodes.specs.Changes.{granted, or_around, is_node}
use Rattle.doc_tree.specs.Cleaned.{attrs_from}
use Rattle.doc_laws.specs.Forest.{one_if}
use Rattle.doc_laws.specs.Reached.{begins, inside, IsGrantable}
use Rattle.page_manifest.specs.Bound.{repeated, once_each}
use Rattle.page_roots.specs.Roots.{Roots}
use Rattle.page_binding.specs.Spots.{Spot, spots, spot_and, spots_in, ids_of, spot_of, around, around_it}
use Rattle.page_binding.specs.Bound.{is_inside, first_overlap}
use Rattle.page_binding.proofs.Names.{any_same, same_both, either_way, itself, none_among, one_of-push}
use Rattle.page_binding.proofs.Least.{some_from}
use Rattle.page_binding.proofs.Once.{Passes, passes, IsApart, spots_apart, IsFound, all_found, both, mapped}
use Rattle.page_binding.proofs.Apart.{apart}

-- ---- how often a granted root stands there

module _ (ids : List (List ℕ)) (r : ℕ) where
  abbrev Is : List ℕ → Bool
  Is id = is_node r (granted ids (Some id))

  abbrev hits : List Spot → ℕ
  hits [] = 0
  hits (s ∷ ss) = one_if (Is s.id) + hits ss

  hits-append : (xs ys : List Spot) → hits (xs ++ ys) ≡ hits xs + hits ys
  hits-append [] ys = let z : hits ys ≡ 0 + hits ys = omega arith in z
  hits-append (x ∷ xs) ys = omega (arith, hits-append xs ys)

  element_begins : (tag : List ℕ) (v : Option (List ℕ)) (path : List (List ℕ)) (n : ℕ) (content : List (List ℕ) → List Spot) → ((path : List (List ℕ)) → n ≡ hits (content path))
      → one_if (is_node r (granted ids v)) + n ≡ hits (spot_and tag v path content)
  element_begins tag None path n content ih = omega (arith, ih path)
  element_begins tag (Some id) path n content ih = ap (λ m. one_if (Is id) + m) (ih (id ∷ path))

  begins_are : (s : Sort) (x : Tree s) (path : List (List ℕ)) → begins ids r s x ≡ hits (spots s x path)
  begins_are _ (text_node us) path = refl
  begins_are _ (element tag xs ts) path = element_begins tag (value_at (codes "id") (attrs_from xs)) path (begins ids r many ts) (spots many ts) (begins_are many ts)
  begins_are _ none path = refl
  begins_are _ (more x ts) path =
      ap (λ n. n + begins ids r many ts) (begins_are one x path) ∙ ap (λ n. hits (spots one x path) + n) (begins_are many ts path)
      ∙ sym (hits-append (spots one x path) (spots many ts path))

  is_at : (o : Option ℕ) → is_node r o ≡ true → o ≡ Some r
  is_at None h = absurd (true≢false (sym h))
  is_at (Some q) h = ap Some (eqb-true q r h)

  -- a root's id is one
  same_id : (a b : List ℕ) → Is a ≡ true → Is b ≡ true → a ≡ b
  same_id a b h k =
      let x = (position-Some (λ g. same_units g a) ids r [] (is_at (granted ids (Some a)) h)).1 in
      let y = (position-Some (λ g. same_units g b) ids r [] (is_at (granted ids (Some b)) k)).1 in
      sym (same_units-equal (get_or ids r []) a x) ∙ same_units-equal (get_or ids r []) b y

  -- it stands before these, and so not among them
  none_more : (c : List ℕ) → Is c ≡ true → (before : List (List ℕ)) (i : ℕ) (ss : List Spot) → is_one_of c before ≡ true → repeated before i (ids_of ss) ≡ None → hits ss ≡ 0
  none_more c is before i [] there once = refl
  none_more c is before i (s ∷ ss) there once =
      let p = passes before i s.id (ids_of ss) once in
      let not : Is s.id ≡ false = false_from_ne_true (Is s.id) (λ too. true≢false (sym there ∙ ap (λ x. is_one_of x before) (same_id c s.id is too) ∙ p.new)) in
      let rest = none_more c is (before ++ s.id ∷ []) (i + 1) ss (one_of-push c s.id before ∙ or_left (is_one_of c before) (same_units c s.id) there) p.rest in
      ap (λ b. one_if b + hits ss) not ∙ ap (λ n. 0 + n) rest

  once_at : (before : List (List ℕ)) (i : ℕ) (ss : List Spot) → repeated before i (ids_of ss) ≡ None → hits ss ≤ 1
  once_at before i [] once = omega arith
  once_at before i (s ∷ ss) once =
      let p = passes before i s.id (ids_of ss) once in
      let rest : hits ss ≤ 1 = once_at (before ++ s.id ∷ []) (i + 1) ss p.rest in
      either_way (cases_Bool (Is s.id))
      (λ yes.
      let one : one_if (Is s.id) ≡ 1 = ap one_if yes in
      let nil : hits ss ≡ 0 = none_more s.id yes (before ++ s.id ∷ []) (i + 1) ss (one_of-push s.id s.id before ∙ or_right (is_one_of s.id before) (same_units s.id s.id) (itself s.id)) p.rest in
      omega (arith, one, nil))
      (λ no. let nil : one_if (Is s.id) ≡ 0 = ap one_if no in omega (arith, nil, rest))

  pub begins_once : (ts : Tree many) → once_each (ids_of (spots_in ts)) ≡ None → begins ids r many ts ≤ 1
  begins_once ts once = subst (λ n. n ≤ 1) (sym (begins_are many ts [])) (once_at [] 0 (spots_in ts) once)

-- ---- how often one stands inside another

module _ (ids : List (List ℕ)) where
  -- a root has no other around it
  abbrev pub IsClear : Spot → Type 0
  IsClear s = is_one_of s.id ids ≡ true → list_any (λ b. is_one_of b ids) s.around ≡ false

  is_granted : (id : List ℕ) → is_some (granted ids (Some id)) ≡ is_one_of id ids
  is_granted id =
      ap is_some (position_from-zero (λ g. same_units g id) ids) ∙ some_from (λ g. same_units g id) 0 ids
      ∙ any_same (λ g. same_units g id) (same_units id) (λ g. same_both g id) ids

  joined : (a o : Option ℕ) → is_some (or_around a o) ≡ (is_some o || is_some a)
  joined a None = refl
  joined a (Some r) = refl

  not_both : (a g l : Bool) → a ≡ l → (g ≡ true → l ≡ false) → one_if (a && g) ≡ 0
  not_both true true l e h = absurd (true≢false (e ∙ h refl))
  not_both true false l e h = refl
  not_both false g l e h = refl

  element_inside : (tag : List ℕ) (v : Option (List ℕ)) (path : List (List ℕ)) (a : Option ℕ) (content : List (List ℕ) → List Spot) (deep : Option ℕ → ℕ)
      → ((path : List (List ℕ)) (a : Option ℕ) → is_some a ≡ list_any (λ b. is_one_of b ids) path → All IsClear (content path) → deep a ≡ 0)
      → is_some a ≡ list_any (λ b. is_one_of b ids) path → All IsClear (spot_and tag v path content)
      → one_if (is_some a && is_some (granted ids v)) + deep (or_around a (granted ids v)) ≡ 0
  element_inside tag None path a content deep ih same clear =
      let nil = not_both (is_some a) false (is_some a) refl (λ e. absurd (true≢false (sym e))) in
      let rest = ih path a same clear in
      omega (arith, nil, rest)
  element_inside tag (Some id) path a content deep ih same clear =
      let s : Spot = record { id = id; tag = tag; around = path } in
      let g = is_granted id in
      let nil = not_both (is_some a) (is_some (granted ids (Some id))) (list_any (λ b. is_one_of b ids) path) same (λ e. All-head IsClear s (content (id ∷ path)) clear (sym g ∙ e)) in
      let around_too = joined a (granted ids (Some id)) ∙ ap (λ b. b || is_some a) g ∙ ap (λ b. is_one_of id ids || b) same in
      let rest = ih (id ∷ path) (or_around a (granted ids (Some id))) around_too (All-tail IsClear s (content (id ∷ path)) clear) in
      omega (arith, nil, rest)

  front_clear : (xs ys : List Spot) → All IsClear (xs ++ ys) → All IsClear xs × All IsClear ys
  front_clear [] ys h = (All-nil IsClear, h)
  front_clear (x ∷ xs) ys h =
      let rest = front_clear xs ys (All-tail IsClear x (xs ++ ys) h) in
      (All-cons IsClear x xs (All-head IsClear x (xs ++ ys) h) rest.0, rest.1)

  inside_none : (s : Sort) (x : Tree s) (path : List (List ℕ)) (a : Option ℕ) → is_some a ≡ list_any (λ b. is_one_of b ids) path → All IsClear (spots s x path) → inside ids a s x ≡ 0
  inside_none _ (text_node us) path a same clear = refl
  inside_none _ (element tag xs ts) path a same clear =
      element_inside tag (value_at (codes "id") (attrs_from xs)) path a (spots many ts) (λ o. inside ids o many ts) (inside_none many ts) same clear
  inside_none _ none path a same clear = refl
  inside_none _ (more x ts) path a same clear =
      let parts = front_clear (spots one x path) (spots many ts path) clear in
      let first = inside_none one x path a same parts.0 in
      let rest = inside_none many ts path a same parts.1 in
      omega (arith, first, rest)

  pub inside_nothing : (ts : Tree many) → All IsClear (spots_in ts) → inside ids None many ts ≡ 0
  inside_nothing ts clear = inside_none many ts [] None refl clear

-- ---- the roots that were tested

clear_at : (roots : Roots) (ss : List Spot) → first_overlap (is_inside ss) [] roots ≡ None → (s : Spot) → IsApart s → IsFound ss s → IsClear (keys_of roots) s
clear_at roots ss tested s own found here =
    none_among (keys_of roots) s.around (λ b around_it_is. false_from_ne_true (is_one_of b (keys_of roots)) (λ there.
    either_way (apart (is_inside ss) roots [] tested s.id b here there)
    (λ same. true≢false (sym around_it_is ∙ ap (λ x. is_one_of x s.around) (sym same) ∙ own))
    (λ out. true≢false (sym around_it_is ∙ sym (ap (λ o. is_one_of b (around_it o)) found) ∙ out))))

pub grantable : (roots : Roots) (ts : Tree many) → once_each (ids_of (spots_in ts)) ≡ None → first_overlap (is_inside (spots_in ts)) [] roots ≡ None → IsGrantable (keys_of roots) ts
grantable roots ts once tested =
    let ss = spots_in ts in
    record {
      once = λ r. begins_once (keys_of roots) r ts once;
      apart = inside_nothing (keys_of roots) ts (both {P = IsApart} {Q = IsFound ss} {R = IsClear (keys_of roots)} (clear_at roots ss tested) ss (spots_apart ts once) (all_found [] 0 ss once));
    }
