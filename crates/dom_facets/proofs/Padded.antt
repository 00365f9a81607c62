-- Lists that are as long as they have to be, with the same element in each new place.
use Rattle.std.proofs.Common.{◌≡◌, ◌≢◌, ℕ, zero, suc, ◌+◌, ◌-◌, ◌<◌, ◌≤◌, true, false, List, [], ◌∷◌, ◌++◌, length, get_or, replicate, refl, sym, ap, ◌∙◌, append_assoc, append-nil, arith}
use Rattle.std.specs.Prelude.{nat_eq, if◌then◌else◌}
use Rattle.std.proofs.lemmas.Bool.Decides.{nat_tests}
use Rattle.std.proofs.lemmas.List.{length-append, length-replicate, get_or-set_same, get_or-set_other}
use Rattle.dom_facets.specs.Places.{padded, put_at}

module _ {A : Type 0} (d : A) where
  -- one more, where there are fewer
  pub padded_more : (n : ℕ) (xs : List A) → length xs < n → padded d n (xs ++ d ∷ []) ≡ padded d n xs
  padded_more n xs fewer =
      let one = length-append xs (d ∷ []) in
      let rest : n - length (xs ++ d ∷ []) ≡ n - length xs - 1 = omega (arith, one) in
      let whole : n - length xs ≡ suc (n - length xs - 1) = omega (arith, fewer) in
      append_assoc xs (d ∷ []) (replicate (n - length (xs ++ d ∷ [])) d)
      ∙ ap (λ k. xs ++ (d ∷ replicate k d)) rest
      ∙ ap (λ k. xs ++ replicate k d) (sym whole)

  -- none, where there are so many
  pub padded_all : (n : ℕ) (xs : List A) → n ≤ length xs → padded d n xs ≡ xs
  padded_all n xs many = let none : n - length xs ≡ 0 = omega (arith, many) in ap (λ k. xs ++ replicate k d) none ∙ append-nil xs

  all_alike : (k i : ℕ) → get_or (replicate k d) i d ≡ d
  all_alike zero i = refl
  all_alike (suc k) zero = refl
  all_alike (suc k) (suc i) = all_alike k i

  more_same : (xs : List A) (k i : ℕ) → get_or (xs ++ replicate k d) i d ≡ get_or xs i d
  more_same [] k i = all_alike k i
  more_same (x ∷ xs) k zero = refl
  more_same (x ∷ xs) k (suc i) = more_same xs k i

  pub padded_same : (n i : ℕ) (xs : List A) → get_or (padded d n xs) i d ≡ get_or xs i d
  padded_same n i xs = more_same xs (n - length xs) i

  padded_long : (n : ℕ) (xs : List A) → n ≤ length (padded d n xs)
  padded_long n xs =
      let a = length-append xs (replicate (n - length xs) d) in
      let b = length-replicate (n - length xs) d in
      omega (arith, a, b)

  -- what stands at each place afterwards
  pub put_there : (i : ℕ) (x : A) (xs : List A) → get_or (put_at d i x xs) i d ≡ x
  put_there i x xs = let long = padded_long (i + 1) xs in get_or-set_same (padded d (i + 1) xs) i x d (omega (arith, long))

  pub put_elsewhere : (i j : ℕ) (x : A) (xs : List A) → j ≢ i → get_or (put_at d i x xs) j d ≡ get_or xs j d
  put_elsewhere i j x xs other = get_or-set_other (padded d (i + 1) xs) i j x d other ∙ padded_same (i + 1) j xs

  pub put_is : (i : ℕ) (x : A) (xs : List A) (j : ℕ) → get_or (put_at d i x xs) j d ≡ (if nat_eq j i then x else get_or xs j d)
  put_is i x xs j =
      elim (nat_eq j i) as (λ b. nat_eq j i ≡ b → get_or (put_at d i x xs) j d ≡ (if b then x else get_or xs j d)) [
        | true ↦ λ e. let same : j ≡ i = grind (arith, nat_tests) in ap (λ k. get_or (put_at d i x xs) k d) same ∙ put_there i x xs
        | false ↦ λ e. put_elsewhere i j x xs (grind (arith, nat_tests))
      ] refl
