-- Of any test of togetherness: those that are together with no earlier one, each with all that are together with it, are its partition of the numbers below n.
use Rattle.std.proofs.Common.{◌≡◌, ℕ, zero, suc, ◌<◌, ◌≤◌, Bool, true, false, cond, not, ◌||◌, List, [], ◌∷◌, ◌++◌, map, filter, length, get_or, All, Contains, refl, sym, ap, ◌∙◌, subst, inl, inr, arith}
use Rattle.std.specs.Prelude.{◌⊎◌, slice_index}
use Rattle.std.specs.List.{list_any}
use Rattle.std.specs.List.Sorted.{IsStrictlyIncreasing}
use Rattle.std.proofs.lemmas.Bool.{false≢true, cases_lt, false_from_ne_true}
use Rattle.std.proofs.lemmas.List.{length-map, get_or-map, get_or_past}
use Rattle.std.proofs.lemmas.List.Elements.{All-map, All-filter, filter_passes, filter-append, Contains-append_left, Contains-append_right}
use Rattle.std.proofs.lemmas.List.Kept.{IsStrictlyIncreasing-filter, AllPairs-from_increasing}
use Rattle.std.proofs.lemmas.List.Folds.{list_any-append}
use Rattle.reach_report.specs.Groups.{below, StandTogether, StandsInOne}
use Rattle.reach_report.proofs.Lists.{below_suc, below_split, all_below, below_ascends, filter_below_suc, filter_none, in_filter, filter_has, any_below, any_agree, map_undone}

module _ (w : ℕ → ℕ → Bool) (itself : (m : ℕ) → w m m ≡ true) (alike : (m n : ℕ) → w m n ≡ true → (k : ℕ) → w m k ≡ w n k) where
  abbrev heads : ℕ → List ℕ
  heads n = filter (λ m. not (list_any (w m) (below m))) (below n)

  abbrev group : ℕ → ℕ → List ℕ
  group n m = filter (w m) (below n)

  abbrev listed : ℕ → List (List ℕ)
  listed n = map (λ m. filter (w m) (below n)) (heads n)

  turned : (m n : ℕ) → w m n ≡ true → w n m ≡ true
  turned m n h = sym (alike m n h m) ∙ itself m

  -- each is together with a first one
  found : (m n : ℕ) → list_any (w m) (below n) ≡ true → (f : ℕ) × Contains (heads n) f × (w m f ≡ true)
  found m zero h = absurd (false≢true h)
  found m (suc n) h =
      let more : list_any (w m) (below n ++ n ∷ []) ≡ true = ap (list_any (w m)) (sym (below_suc n)) ∙ h in
      by_test (found m n) (list_any (w m) (below n)) refl (sym (list_any-append (w m) (below n) (n ∷ [])) ∙ more)
    where
      last : (b : Bool) → (b || false) ≡ true → b ≡ true
      last true e = refl
      last false e = e

      grown : (f : ℕ) → Contains (heads n ++ cond (not (list_any (w n) (below n))) (n ∷ []) []) f → Contains (heads (suc n)) f
      grown f c = subst (λ xs. Contains xs f) (sym (filter_below_suc (λ m. not (list_any (w m) (below m))) n)) c

      by_test : (list_any (w m) (below n) ≡ true → (f : ℕ) × Contains (heads n) f × (w m f ≡ true)) → (b : Bool) → list_any (w m) (below n) ≡ b → (b || (w m n || false)) ≡ true → (f : ℕ) × Contains (heads (suc n)) f × (w m f ≡ true)
      by_test before true e k = let r = before e in (r.0, grown r.0 (Contains-append_left (heads n) (cond (not (list_any (w n) (below n))) (n ∷ []) []) r.0 r.1), r.2)
      by_test before false e k =
          let here : w m n ≡ true = last (w m n) k in
          let none : list_any (w n) (below n) ≡ false = sym (any_agree (w m) (w n) (below n) (alike m n here)) ∙ e in
          (n, grown n (Contains-append_right (heads n) (cond (not (list_any (w n) (below n))) (n ∷ []) []) n (subst (λ b. Contains (cond (not b) (n ∷ []) []) n) (sym none) (0, omega arith, refl))), here)

  found_below : (m n : ℕ) → m < n → (f : ℕ) × Contains (heads n) f × (w m f ≡ true)
  found_below m n h = found m n (any_below (w m) m n h (itself m))

  -- a group is listed where its first one is
  place : (n f : ℕ) → Contains (heads n) f → (k : ℕ) × (k < length (listed n)) × ((d : List ℕ) → get_or (listed n) k d ≡ group n f)
  place n f c = (c.0, subst (λ j. c.0 < j) (sym (length-map (heads n) (λ m. filter (w m) (below n)))) c.1, λ d. get_or-map (λ m. filter (w m) (below n)) (heads n) c.0 f d c.1 ∙ ap (group n) c.2)

  pub together : (m k n : ℕ) → m < n → k < n → w m k ≡ true → StandTogether (listed n) m k
  together m k n lm lk h =
      let r = found_below m n lm in
      let p = place n r.0 r.1 in
      let hm : w r.0 m ≡ true = turned m r.0 r.2 in
      let hk : w r.0 k ≡ true = sym (alike m r.0 r.2 k) ∙ h in
      (p.0, group n r.0, p.1, p.2 (group n r.0), (in_filter (w r.0) m n lm hm, in_filter (w r.0) k n lk hk))

  shares : (m k n f : ℕ) → Contains (group n f) m → Contains (group n f) k → w m k ≡ true
  shares m k n f cm ck = sym (alike f m (filter_has (w f) m n cm).0 k) ∙ (filter_has (w f) k n ck).0

  pub only_together : (m k n : ℕ) → StandTogether (listed n) m k → w m k ≡ true
  only_together m k n h =
      let all : All (λ g. Contains g m → Contains g k → w m k ≡ true) (listed n) = All-map (λ g. Contains g m → Contains g k → w m k ≡ true) (λ f. filter (w f) (below n)) (heads n) (λ i d l. shares m k n (get_or (heads n) i d)) in
      subst (λ g. Contains g m → Contains g k → w m k ≡ true) h.3 (all h.0 h.1 h.2) h.4.0 h.4.1

  -- no first one is together with another
  apart : (n i j d : ℕ) → i < j → j < length (heads n) → w (get_or (heads n) j d) (get_or (heads n) i d) ≡ false
  apart n i j d l lj =
      let f = get_or (heads n) i d in
      let g = get_or (heads n) j d in
      let less : f < g = AllPairs-from_increasing (heads n) (IsStrictlyIncreasing-filter (λ m. not (list_any (w m) (below m))) (below n) (below_ascends n)) i j d l lj in
      let first : not (list_any (w g) (below g)) ≡ true = filter_passes (λ m. not (list_any (w m) (below m))) (below n) j d lj in
      false_from_ne_true (w g f) (λ e. false≢true (ap not (sym (any_below (w g) f g less e)) ∙ first))

  -- where a group has m, it is that of the first one there
  at_place : (m n j : ℕ) → Contains (get_or (listed n) j []) m → (j < length (heads n)) × (w (get_or (heads n) j 0) m ≡ true)
  at_place m n j c = by_length (cases_lt j (length (heads n)))
    where
      by_length : (j < length (heads n)) ⊎ (length (heads n) ≤ j) → (j < length (heads n)) × (w (get_or (heads n) j 0) m ≡ true)
      by_length (inl l) = (l, (filter_has (w (get_or (heads n) j 0)) m n (subst (λ g. Contains g m) (get_or-map (λ f. filter (w f) (below n)) (heads n) j 0 [] l) c)).0)
      by_length (inr l) =
          let past : length (listed n) ≤ j = subst (λ i. i ≤ j) (sym (length-map (heads n) (λ f. filter (w f) (below n)))) l in
          let empty : Contains [] m = subst (λ g. Contains g m) (get_or_past (listed n) j [] past) c in
          let none : empty.0 < 0 = empty.1 in
          absurd (omega arith)

  pub in_one : (m n : ℕ) → m < n → StandsInOne (listed n) m
  in_one m n l =
      let r = found_below m n l in
      let p = place n r.0 r.1 in
      let c : Contains (get_or (listed n) p.0 []) m = subst (λ g. Contains g m) (sym (p.2 [])) (in_filter (w r.0) m n l (turned m r.0 r.2)) in
      (p.0, c, λ j q. same j p.0 (at_place m n j q) (at_place m n p.0 c))
    where
      earlier : (j k : ℕ) → (j < length (heads n)) × (w (get_or (heads n) j 0) m ≡ true) → (k < length (heads n)) × (w (get_or (heads n) k 0) m ≡ true) → j < k → ⊥
      earlier j k p q lt =
          let f = get_or (heads n) j 0 in
          let g = get_or (heads n) k 0 in
          let met : w g f ≡ true = alike g m q.1 f ∙ turned f m p.1 in
          false≢true (sym (apart n j k 0 lt q.0) ∙ met)

      same : (j k : ℕ) → (j < length (heads n)) × (w (get_or (heads n) j 0) m ≡ true) → (k < length (heads n)) × (w (get_or (heads n) k 0) m ≡ true) → j ≡ k
      same j k p q =
          let a : j < k → ⊥ = earlier j k p q in
          let b : k < j → ⊥ = earlier k j q p in
          omega arith

  pub each_ascends : (n : ℕ) → All IsStrictlyIncreasing (listed n)
  each_ascends n = All-map IsStrictlyIncreasing (λ m. filter (w m) (below n)) (heads n) (λ k d l. IsStrictlyIncreasing-filter (w (get_or (heads n) k d)) (below n) (below_ascends n))

  pub each_below : (n : ℕ) → All (All (λ m. m < n)) (listed n)
  each_below n = All-map (All (λ m. m < n)) (λ m. filter (w m) (below n)) (heads n) (λ k d l. All-filter (w (get_or (heads n) k d)) (λ m. m < n) (below n) (all_below n))

  -- a first one is the first of its group
  begins : (n f : ℕ) → f < n → not (list_any (w f) (below f)) ≡ true → (rest : List ℕ) × (group n f ≡ f ∷ rest)
  begins n f l first =
      let s = below_split f n l in
      let none : list_any (w f) (below f) ≡ false = false_from_ne_true (list_any (w f) (below f)) (λ e. false≢true (ap not (sym e) ∙ first)) in (
        filter (w f) s.0,
        ap (filter (w f)) s.1 ∙ filter-append (w f) (below f) (f ∷ s.0) ∙ ap (λ xs. xs ++ cond (w f f) (f ∷ filter (w f) s.0) (filter (w f) s.0)) (filter_none (w f) (below f) none) ∙ ap (λ b. cond b (f ∷ filter (w f) s.0) (filter (w f) s.0)) (itself f),
      )

  all_begin : (n : ℕ) → All (λ f. (rest : List ℕ) × (group n f ≡ f ∷ rest)) (heads n)
  all_begin n k d l = begins n (get_or (heads n) k d) (All-filter (λ m. not (list_any (w m) (below m))) (λ m. m < n) (below n) (all_below n) k d l) (filter_passes (λ m. not (list_any (w m) (below m))) (below n) k d l)

  pub none_is_empty : (n : ℕ) → All (λ g. 0 < length g) (listed n)
  none_is_empty n = All-map (λ g. 0 < length g) (λ m. filter (w m) (below n)) (heads n) (λ k d l. let b = all_begin n k d l in subst (λ g. 0 < length g) (sym b.1) (omega arith))

  pub first_ones : (n : ℕ) → map (λ g. slice_index g 0) (listed n) ≡ heads n
  first_ones n = map_undone (λ m. filter (w m) (below n)) (λ g. slice_index g 0) (heads n) (λ k d l. let b = all_begin n k d l in ap (λ g. slice_index g 0) b.1)

  pub first_ones_ascend : (n : ℕ) → IsStrictlyIncreasing (map (λ g. slice_index g 0) (listed n))
  first_ones_ascend n = subst IsStrictlyIncreasing (sym (first_ones n)) (IsStrictlyIncreasing-filter (λ m. not (list_any (w m) (below m))) (below n) (below_ascends n))
