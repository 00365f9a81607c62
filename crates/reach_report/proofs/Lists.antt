-- Of lists: the numbers below a number, what a filter keeps, what stands where.
use Rattle.std.proofs.Common.{◌≡◌, ℕ, zero, suc, ◌+◌, ◌<◌, Bool, true, false, cond, ◌||◌, List, [], ◌∷◌, ◌++◌, map, filter, All, Contains, refl, sym, ap, ap₂, ◌∙◌, subst, inl, inr, add-zero, zero-add, arith}
use Rattle.std.specs.Prelude.{◌⊎◌, slice_index}
use Rattle.std.specs.List.{list_any, range_with_len}
use Rattle.std.specs.List.Sorted.{IsStrictlyIncreasing}
use Rattle.std.proofs.lemmas.Bool.{false≢true, cases_eq}
use Rattle.std.proofs.lemmas.List.Elements.{filter-append, filter_passes, All-filter, All-contains, All-head, All-tail, Contains-append_left, Contains-append_right}
use Rattle.std.proofs.lemmas.List.FromFn.{length-range_with_len, get_or-range_with_len}
use Rattle.std.proofs.lemmas.List.Folds.{list_any_at}
use Rattle.reach_report.specs.Groups.{below}

range_more : (a n : ℕ) → range_with_len a (suc n) ≡ range_with_len a n ++ (a + n) ∷ []
range_more a zero = ap (λ j. j ∷ []) (sym (add-zero a))
range_more a (suc n) = let e : a + 1 + n ≡ a + suc n = omega arith in ap (λ xs. a ∷ xs) (range_more (a + 1) n ∙ ap (λ j. range_with_len (a + 1) n ++ j ∷ []) e)

pub below_suc : (n : ℕ) → below (suc n) ≡ below n ++ n ∷ []
below_suc n = range_more 0 n ∙ ap (λ j. below n ++ j ∷ []) (zero-add n)

-- what a number stands between
range_split : (a k n : ℕ) → k < n → (rest : List ℕ) × (range_with_len a n ≡ range_with_len a k ++ (a + k) ∷ rest)
range_split a k zero h = absurd (omega arith)
range_split a zero (suc n) h = (range_with_len (a + 1) n, ap (λ j. j ∷ range_with_len (a + 1) n) (sym (add-zero a)))
range_split a (suc k) (suc n) h =
    let less : k < n = omega arith in
    let e : a + 1 + k ≡ a + suc k = omega arith in
    let r = range_split (a + 1) k n less in
    (r.0, ap (λ xs. a ∷ xs) (r.1 ∙ ap (λ j. range_with_len (a + 1) k ++ j ∷ r.0) e))

pub below_split : (k n : ℕ) → k < n → (rest : List ℕ) × (below n ≡ below k ++ k ∷ rest)
below_split k n h = let r = range_split 0 k n h in (r.0, r.1 ∙ ap (λ j. below k ++ j ∷ r.0) (zero-add k))

pub below_has : (m n : ℕ) → m < n → Contains (below n) m
below_has m n h = (m, subst (λ k. m < k) (sym (length-range_with_len 0 n)) h, get_or-range_with_len 0 n m m h ∙ zero-add m)

pub all_below : (n : ℕ) → All (λ m. m < n) (below n)
all_below n k d h = let short : k < n = subst (λ j. k < j) (length-range_with_len 0 n) h in subst (λ j. j < n) (sym (get_or-range_with_len 0 n k d short ∙ zero-add k)) short

pub below_ascends : (n : ℕ) → IsStrictlyIncreasing (below n)
below_ascends n k h =
    let next : k + 1 < n = subst (λ j. k + 1 < j) (length-range_with_len 0 n) h in
    let here : k < n = omega arith in
    let e : slice_index (below n) k ≡ 0 + k = get_or-range_with_len 0 n k 0 here in
    let f : slice_index (below n) (k + 1) ≡ 0 + (k + 1) = get_or-range_with_len 0 n (k + 1) 0 next in
    omega arith

-- what passes of the numbers below n
pub filter_below_suc : (p : ℕ → Bool) (n : ℕ) → filter p (below (suc n)) ≡ filter p (below n) ++ cond (p n) (n ∷ []) []
filter_below_suc p n = ap (filter p) (below_suc n) ∙ filter-append p (below n) (n ∷ [])

pub filter_below_agree : (p q : ℕ → Bool) (n : ℕ) → ((k : ℕ) → k < n → p k ≡ q k) → filter p (below n) ≡ filter q (below n)
filter_below_agree p q zero h = refl
filter_below_agree p q (suc n) h =
    filter_below_suc p n ∙ ap₂ (λ xs b. xs ++ cond b (n ∷ []) []) (filter_below_agree p q n (λ k l. h k (omega arith))) (h n (omega arith)) ∙ sym (filter_below_suc q n)

pub filter_none : {X : Type 0} (p : X → Bool) (xs : List X) → list_any p xs ≡ false → filter p xs ≡ []
filter_none p [] h = refl
filter_none p (x ∷ xs) h = by_test (filter_none p xs) (p x) h
  where
    by_test : (list_any p xs ≡ false → filter p xs ≡ []) → (b : Bool) → (b || list_any p xs) ≡ false → cond b (x ∷ filter p xs) (filter p xs) ≡ []
    by_test before true k = absurd (false≢true (sym k))
    by_test before false k = before k

-- a number below n that passes is kept
pub in_filter : (p : ℕ → Bool) (m n : ℕ) → m < n → p m ≡ true → Contains (filter p (below n)) m
in_filter p m zero h e = absurd (omega arith)
in_filter p m (suc n) h e = subst (λ xs. Contains xs m) (sym (filter_below_suc p n)) (by_place (λ l. in_filter p m n l e) (cases_eq m n))
  where
    by_place : (m < n → Contains (filter p (below n)) m) → (m ≡ n) ⊎ (m ≡ n → ⊥) → Contains (filter p (below n) ++ cond (p n) (n ∷ []) []) m
    by_place before (inl s) = Contains-append_right (filter p (below n)) (cond (p n) (n ∷ []) []) m (subst (λ b. Contains (cond b (n ∷ []) []) m) (sym (ap p (sym s) ∙ e)) (0, omega arith, sym s))
    by_place before (inr apart) = let l : m < n = omega arith in Contains-append_left (filter p (below n)) (cond (p n) (n ∷ []) []) m (before l)

pub filter_has : (p : ℕ → Bool) (m n : ℕ) → Contains (filter p (below n)) m → (p m ≡ true) × (m < n)
filter_has p m n h = (All-contains (λ x. p x ≡ true) (filter p (below n)) m (filter_passes p (below n)) h, All-contains (λ x. x < n) (filter p (below n)) m (All-filter p (λ x. x < n) (below n) (all_below n)) h)

pub any_below : (p : ℕ → Bool) (m n : ℕ) → m < n → p m ≡ true → list_any p (below n) ≡ true
any_below p m n h e =
    let c = below_has m n h in
    list_any_at p (below n) c.0 m c.1 (ap p c.2 ∙ e)

pub any_agree : {X : Type 0} (p q : X → Bool) (xs : List X) → ((x : X) → p x ≡ q x) → list_any p xs ≡ list_any q xs
any_agree p q [] h = refl
any_agree p q (x ∷ xs) h = ap₂ (λ a b. a || b) (h x) (any_agree p q xs h)

pub any_map : {X Y : Type 0} (p : Y → Bool) (f : X → Y) (xs : List X) → list_any p (map f xs) ≡ list_any (λ x. p (f x)) xs
any_map p f [] = refl
any_map p f (x ∷ xs) = ap (λ b. p (f x) || b) (any_map p f xs)

-- what undoes a map at each of its elements
pub map_undone : {X Y : Type 0} (f : X → Y) (g : Y → X) (xs : List X) → All (λ x. g (f x) ≡ x) xs → map g (map f xs) ≡ xs
map_undone f g [] h = refl
map_undone f g (x ∷ xs) h = ap₂ (λ y ys. y ∷ ys) (All-head (λ x. g (f x) ≡ x) x xs h) (map_undone f g xs (All-tail (λ x. g (f x) ≡ x) x xs h))

pub map_twice : {X Y Z : Type 0} (f : X → Y) (g : Y → Z) (xs : List X) → map g (map f xs) ≡ map (λ x. g (f x)) xs
map_twice f g [] = refl
map_twice f g (x ∷ xs) = ap (λ zs. g (f x) ∷ zs) (map_twice f g xs)

-- a map whose list ends in y is that of a list that ends in what gives y
pub map_pushed : {X Y : Type 0} (f : X → Y) (xs : List X) (ys : List Y) (y : Y) → map f xs ≡ ys ++ y ∷ [] → (front : List X) × (x : X) × (xs ≡ front ++ x ∷ []) × (map f front ≡ ys) × (f x ≡ y)
map_pushed f [] [] y e = absurd (cc)
map_pushed f [] (z ∷ zs) y e = absurd (cc)
map_pushed f (x ∷ []) [] y e = let h : f x ≡ y = cc in ([], x, refl, refl, h)
map_pushed f (x ∷ u ∷ xs) [] y e = let h : map f (u ∷ xs) ≡ [] = cc in absurd (cc)
map_pushed f (x ∷ xs) (z ∷ zs) y e =
    let h : f x ≡ z = cc in
    let t : map f xs ≡ zs ++ y ∷ [] = cc in
    let r = map_pushed f xs zs y t in
    (x ∷ r.0, r.1, ap (λ us. x ∷ us) r.2, ap₂ (λ v vs. v ∷ vs) h r.3, r.4)
