-- What the slots of indices hold, as properties.
use Rattle.std.proofs.Common.{◌≡◌, ℕ, zero, suc, ◌+◌, ◌<◌, ◌≤◌, true, false, not, cond, List, [], ◌∷◌, ◌++◌, length, set, take, filter, Option, Some, None, slice_get, refl, ap, sym, ◌∙◌, arith}
use Rattle.std.proofs.lemmas.Bool.{lt-ltb, le-ltb}
use Rattle.std.proofs.lemmas.Slice.Eq.{bytes_eq-Decides}
use Rattle.std.specs.Cmp.Lexicographic.{same_text}
use Rattle.std.specs.Map.{lookup, remove_entry}
use Rattle.indexmap.specs.IndexMap.{insert_entry}
use Rattle.caja_units.specs.Units.{same_units}
use Rattle.caja_units.specs.Index.{array_index, number_units}
use Rattle.caja_units.proofs.Indices.{array_index-number, array_index-gives}
use Rattle.property_tables.specs.Indexed.{present, slot_value, is_full, full_at, full_slot, is_index_from, NoIndex}

-- the key of an index is that index, and no other

pub same-number : (k : List ℕ) (i : ℕ) → array_index k ≡ Some i → same_units k (number_units i) ≡ true
same-number k i is = (bytes_eq-Decides k (number_units i)).1 (array_index-gives k i is).0

other-number : (k : List ℕ) (i : ℕ) → i < 4294967295 → (array_index k ≡ Some i → ⊥) → same_units k (number_units i) ≡ false
other-number k i small ne =
    let cases = elim (same_units k (number_units i)) as (λ b. same_units k (number_units i) ≡ b → b ≡ false) [
      | true ↦ λ is. absurd (ne (array_index-number k i (same_text k (number_units i) (sym is)) small))
      | false ↦ λ is. refl
    ] in cases refl

-- a key is none of the indices from one on
abbrev IsApart : List ℕ → ℕ → Type 0
IsApart k i = (m : ℕ) → i ≤ m → array_index k ≡ Some m → ⊥

pub apart-below : (k : List ℕ) (j i : ℕ) → array_index k ≡ Some j → j < i → IsApart k i
apart-below k j i is less m from also = let same : j ≡ m = cc in omega arith

pub apart-none : (k : List ℕ) (i : ℕ) → array_index k ≡ None → IsApart k i
apart-none k i is m from also = cc

past : (n i : ℕ) → n ≤ i → i < 4294967295 → not (is_index_from n (number_units i)) ≡ false
past n i from small = rw (array_index-number (number_units i) i refl small, le-ltb i n from) refl

below : (n i : ℕ) → i < n → i < 4294967295 → not (is_index_from n (number_units i)) ≡ true
below n i less small = rw (array_index-number (number_units i) i refl small, lt-ltb i n less) refl

module _ {P : Type 0} where
  pub lookup-apart : (k : List ℕ) (i : ℕ) (xs : List (Option P)) → IsApart k i → i + length xs ≤ 4294967295 → lookup (same_units k) (present i xs) ≡ None
  lookup-apart k i [] apart few = refl
  lookup-apart k i (None ∷ xs) apart few = lookup-apart k (i + 1) xs (λ m from. apart m (omega arith)) (omega arith)
  lookup-apart k i (Some p ∷ xs) apart few =
      let other : same_units k (number_units i) ≡ false = other-number k i (omega arith) (apart i (omega arith)) in
      rw other (lookup-apart k (i + 1) xs (λ m from. apart m (omega arith)) (omega arith))

  pub lookup-slot : (k : List ℕ) (j i d : ℕ) (xs : List (Option P)) → array_index k ≡ Some j → j ≡ i + d → i + length xs ≤ 4294967295 → lookup (same_units k) (present i xs) ≡ slot_value (slice_get xs d)
  lookup-slot k j i d [] is at few = refl
  lookup-slot k j i zero (None ∷ xs) is at few = lookup-apart k (i + 1) xs (apart-below k j (i + 1) is (omega arith)) (omega arith)
  lookup-slot k j i zero (Some p ∷ xs) is at few =
      let here : i ≡ j = omega arith in
      let same : same_units k (number_units i) ≡ true = rw here (same-number k j is) in
      rw same refl
  lookup-slot k j i (suc d) (None ∷ xs) is at few = lookup-slot k j (i + 1) d xs is (omega arith) (omega arith)
  lookup-slot k j i (suc d) (Some p ∷ xs) is at few =
      let other : same_units k (number_units i) ≡ false = other-number k i (omega arith) (λ also. let same : j ≡ i = cc in omega arith) in
      rw other (lookup-slot k j (i + 1) d xs is (omega arith) (omega arith))

  -- what is written to a full slot
  pub insert-slot : (k : List ℕ) (p q : P) (j i d : ℕ) (xs : List (Option P)) → array_index k ≡ Some j → j ≡ i + d → i + length xs ≤ 4294967295 → slice_get xs d ≡ Some (Some q) → insert_entry same_units (present i xs) k p ≡ present i (set xs d (Some p))
  insert-slot k p q j i d [] is at few full = cc
  insert-slot k p q j i zero (None ∷ xs) is at few full = cc
  insert-slot k p q j i zero (Some r ∷ xs) is at few full =
      let here : i ≡ j = omega arith in
      let same : same_units k (number_units i) ≡ true = rw here (same-number k j is) in
      rw same refl
  insert-slot k p q j i (suc d) (None ∷ xs) is at few full = insert-slot k p q j (i + 1) d xs is (omega arith) (omega arith) full
  insert-slot k p q j i (suc d) (Some r ∷ xs) is at few full =
      let other : same_units k (number_units i) ≡ false = other-number k i (omega arith) (λ also. let same : j ≡ i = cc in omega arith) in
      rw other (ap (λ l. (number_units i, r) ∷ l) (insert-slot k p q j (i + 1) d xs is (omega arith) (omega arith) full))

  -- what a slot that is emptied leaves
  pub remove-slot : (k : List ℕ) (q : P) (j i d : ℕ) (xs : List (Option P)) → array_index k ≡ Some j → j ≡ i + d → i + length xs ≤ 4294967295 → slice_get xs d ≡ Some (Some q) → remove_entry (same_units k) (present i xs) ≡ present i (set xs d None)
  remove-slot k q j i d [] is at few full = cc
  remove-slot k q j i zero (None ∷ xs) is at few full = cc
  remove-slot k q j i zero (Some r ∷ xs) is at few full =
      let here : i ≡ j = omega arith in
      let same : same_units k (number_units i) ≡ true = rw here (same-number k j is) in
      rw same refl
  remove-slot k q j i (suc d) (None ∷ xs) is at few full = remove-slot k q j (i + 1) d xs is (omega arith) (omega arith) full
  remove-slot k q j i (suc d) (Some r ∷ xs) is at few full =
      let other : same_units k (number_units i) ≡ false = other-number k i (omega arith) (λ also. let same : j ≡ i = cc in omega arith) in
      rw other (ap (λ l. (number_units i, r) ∷ l) (remove-slot k q j (i + 1) d xs is (omega arith) (omega arith) full))

  -- a slot more
  pub present-push : (i : ℕ) (xs : List (Option P)) (p : P) → present i (xs ++ Some p ∷ []) ≡ present i xs ++ (number_units (i + length xs), p) ∷ []
  present-push i [] p = let here : i + 0 ≡ i = omega arith in rw here refl
  present-push i (None ∷ xs) p = let there : i + suc (length xs) ≡ i + 1 + length xs = omega arith in rw there (present-push (i + 1) xs p)
  present-push i (Some q ∷ xs) p = let there : i + suc (length xs) ≡ i + 1 + length xs = omega arith in rw there (ap (λ l. (number_units i, q) ∷ l) (present-push (i + 1) xs p))

  pub present-empty : (i : ℕ) (xs : List (Option P)) → present i (xs ++ None ∷ []) ≡ present i xs
  present-empty i [] = refl
  present-empty i (None ∷ xs) = present-empty (i + 1) xs
  present-empty i (Some q ∷ xs) = ap (λ l. (number_units i, q) ∷ l) (present-empty (i + 1) xs)

  -- the slots below an index

  filter-past : (n i : ℕ) (xs : List (Option P)) → n ≤ i → i + length xs ≤ 4294967295 → filter (λ (e : List ℕ × P). not (is_index_from n e.0)) (present i xs) ≡ []
  filter-past n i [] from few = refl
  filter-past n i (None ∷ xs) from few = filter-past n (i + 1) xs (omega arith) (omega arith)
  filter-past n i (Some p ∷ xs) from few =
      let out = past n i from (omega arith) in
      rw out (filter-past n (i + 1) xs (omega arith) (omega arith))

  pub filter-present : (n i m : ℕ) (xs : List (Option P)) → n ≡ i + m → i + length xs ≤ 4294967295 → filter (λ (e : List ℕ × P). not (is_index_from n e.0)) (present i xs) ≡ present i (take m xs)
  filter-present n i zero xs at few = filter-past n i xs (omega arith) few
  filter-present n i (suc m) [] at few = refl
  filter-present n i (suc m) (None ∷ xs) at few = filter-present n (i + 1) m xs (omega arith) (omega arith)
  filter-present n i (suc m) (Some p ∷ xs) at few =
      let stays = below n i (omega arith) (omega arith) in
      rw stays (ap (λ l. (number_units i, p) ∷ l) (filter-present n (i + 1) m xs (omega arith) (omega arith)))

  pub filter-no_index : (n : ℕ) (es : List (List ℕ × P)) → NoIndex es → filter (λ (e : List ℕ × P). not (is_index_from n e.0)) es ≡ es
  filter-no_index n [] none = refl
  filter-no_index n (e ∷ es) none = let first : array_index e.0 ≡ None = none.0 in rw first (ap (λ l. e ∷ l) (filter-no_index n es none.1))

-- what a search of the slots says

module _ {P : Type 0} where
  pub full_at-some : (xs : List (Option P)) (o : Option ℕ) (i : ℕ) → full_at xs o ≡ Some i → (o ≡ Some i) × (is_full (slice_get xs i) ≡ true)
  full_at-some xs None i is = cc
  full_at-some xs (Some j) i is =
      let cases = elim (is_full (slice_get xs j)) as (λ b. is_full (slice_get xs j) ≡ b → cond b (Some j) None ≡ Some i → (Some j ≡ Some i) × (is_full (slice_get xs i) ≡ true)) [
        | true ↦ λ full same. let here : j ≡ i = cc in (same, rw (← here) full)
        | false ↦ λ full same. cc
      ] in cases refl is

  full_at-none : (xs : List (Option P)) (o : Option ℕ) (i : ℕ) → full_at xs o ≡ None → o ≡ Some i → slot_value (slice_get xs i) ≡ None
  full_at-none xs o i is at =
      let none : full_at xs (Some i) ≡ None = ap (full_at xs) (sym at) ∙ is in
      let cases = elim (slice_get xs i) as (λ s. cond (is_full s) (Some i) None ≡ None → slot_value s ≡ None) [
        | None ↦ λ h. refl
        | Some x ↦ λ h. of x h
      ] in cases none
    where
      of : (x : Option P) → cond (is_full (Some x)) (Some i) None ≡ None → x ≡ None
      of None h = refl
      of (Some p) h = cc

  -- what a full slot holds
  pub record Full (k : List ℕ) (xs : List (Option P)) (i : ℕ) : Type 0 where
    pub index : array_index k ≡ Some i
    pub held : P
    pub holds : slice_get xs i ≡ Some (Some held)

  full-from : (k : List ℕ) (xs : List (Option P)) (i : ℕ) (s : Option (Option P)) → array_index k ≡ Some i → slice_get xs i ≡ s → is_full s ≡ true → Full k xs i
  full-from k xs i None at is full = cc
  full-from k xs i (Some None) at is full = cc
  full-from k xs i (Some (Some p)) at is full = record { index = at; held = p; holds = is }

  pub full_slot-some : (k : List ℕ) (xs : List (Option P)) (i : ℕ) → full_slot k xs ≡ Some i → Full k xs i
  full_slot-some k xs i is =
      let parts = full_at-some xs (array_index k) i is in
      full-from k xs i (slice_get xs i) parts.0 refl parts.1

  pub full_slot-none : (k : List ℕ) (xs : List (Option P)) → length xs ≤ 4294967295 → full_slot k xs ≡ None → lookup (same_units k) (present 0 xs) ≡ None
  full_slot-none k xs few is =
      let cases = elim (array_index k) as (λ o. array_index k ≡ o → full_at xs o ≡ None → lookup (same_units k) (present 0 xs) ≡ None) [
        | None ↦ λ none h. lookup-apart k 0 xs (apart-none k 0 none) (omega arith)
        | Some i ↦ λ at h. lookup-slot k i 0 i xs at (omega arith) (omega arith) ∙ full_at-none xs (Some i) i h refl
      ] in cases refl is
