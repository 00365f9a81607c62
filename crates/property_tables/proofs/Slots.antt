-- Properties in slots and behind them: what a key of either gives, and what is kept.
use Rattle.std.proofs.Common.{◌≡◌, ℕ, zero, suc, ◌+◌, ◌<◌, ◌≤◌, Bool, true, false, not, filter, cond, List, [], ◌∷◌, ◌++◌, length, get_or, set, take, drop, Option, Some, None, is_some, slice_get, refl, ap, sym, ◌∙◌, subst, append_assoc, arith}
use Rattle.std.proofs.Math.ListN.{length-set, length-append}
use Rattle.std.proofs.Math.Seq.{drop-cons}
use Rattle.std.proofs.lemmas.List.{append-nil, take_more, take-append-drop, length-take, length-take-le}
use Rattle.std.proofs.lemmas.List.Elements.{filter-append}
use Rattle.std.proofs.lemmas.Option.{slice_get_within}
use Rattle.std.specs.Cmp.Lexicographic.{nat_list_eq_equiv, same_text}
use Rattle.std.specs.List.{IsDistinct}
use Rattle.std.specs.Map.{lookup, remove_entry, set_value, keys_of}
use Rattle.indexmap.specs.IndexMap.{insert_entry}
use Rattle.indexmap.proofs.MapLemmas.{absent_before}
use Rattle.caja_units.specs.Units.{same_units}
use Rattle.caja_units.specs.Index.{array_index, number_units}
use Rattle.caja_units.proofs.Indices.{array_index-number}
use Rattle.property_tables.specs.Indexed.{present, slot_value, is_full, full_at, full_slot, with_slot, with_entry, is_index_from, NoIndex, IsIndexed}
use Rattle.property_tables.proofs.Entries.{lookup-append, insert-first, insert-second, insert-there, insert-new, set-second, remove-first, remove-second}
use Rattle.property_tables.proofs.Present.{apart-none, lookup-apart, lookup-slot, insert-slot, remove-slot, present-push, present-empty, Full, full_at-some, full_slot-some, full_slot-none, filter-present}

read_at : {X : Type 0} (xs : List X) (i : ℕ) (x d : X) → slice_get xs i ≡ Some x → get_or xs i d ≡ x
read_at [] i x d h = cc
read_at (y ∷ ys) zero x d h = cc
read_at (y ∷ ys) (suc i) x d h = read_at ys i x d h

past_end : {X : Type 0} (xs : List X) (i : ℕ) → length xs ≤ i → slice_get xs i ≡ None
past_end [] i h = refl
past_end (y ∷ ys) zero h = absurd (omega arith)
past_end (y ∷ ys) (suc i) h = past_end ys i (omega arith)

module _ {P : Type 0} where
  pub slot-within : (k : List ℕ) (xs : List (Option P)) (at : ℕ) → full_slot k xs ≡ Some at → at < length xs
  slot-within k xs at is = let full = full_slot-some k xs at is in slice_get_within xs at (Some full.held) full.holds

  slot-lookup : (k : List ℕ) (xs : List (Option P)) (at : ℕ) → length xs ≤ 4294967295 → (full : Full k xs at) → lookup (same_units k) (present 0 xs) ≡ Some full.held
  slot-lookup k xs at few full = lookup-slot k at 0 at xs full.index (omega arith) (omega arith) ∙ ap slot_value full.holds

  -- a key that has a full slot
  pub found-in : (k : List ℕ) (xs : List (Option P)) (os : List (List ℕ × P)) (at : ℕ) (x : Option P) → full_slot k xs ≡ Some at → length xs ≤ 4294967295 → x ≡ get_or xs at x → x ≡ lookup (same_units k) (present 0 xs ++ os)
  found-in k xs os at x is few read =
      let full = full_slot-some k xs at is in
      let here = slot-lookup k xs at few full in
      read ∙ read_at xs at (Some full.held) x full.holds ∙ sym (lookup-append (same_units k) (present 0 xs) os ∙ rw here refl)

  pub some-in : (k : List ℕ) (xs : List (Option P)) (os : List (List ℕ × P)) (at : ℕ) → full_slot k xs ≡ Some at → length xs ≤ 4294967295 → is_some (lookup (same_units k) (present 0 xs ++ os)) ≡ true
  some-in k xs os at is few =
      let full = full_slot-some k xs at is in
      let here = slot-lookup k xs at few full in
      let there : lookup (same_units k) (present 0 xs ++ os) ≡ Some full.held = lookup-append (same_units k) (present 0 xs) os ∙ rw here refl in
      ap is_some there

  pub insert-in : (k : List ℕ) (xs : List (Option P)) (os : List (List ℕ × P)) (at : ℕ) (p : P) → full_slot k xs ≡ Some at → length xs ≤ 4294967295 → present 0 (set xs at (Some p)) ++ os ≡ insert_entry same_units (present 0 xs ++ os) k p
  insert-in k xs os at p is few =
      let full = full_slot-some k xs at is in
      let here = slot-lookup k xs at few full in
      sym (insert-first k p full.held (present 0 xs) os here ∙ ap (λ l. l ++ os) (insert-slot k p full.held at 0 at xs full.index (omega arith) (omega arith) full.holds))

  pub set-in : (k : List ℕ) (xs : List (Option P)) (os : List (List ℕ × P)) (at : ℕ) (p : P) → full_slot k xs ≡ Some at → length xs ≤ 4294967295 → present 0 (set xs at (Some p)) ++ os ≡ set_value (same_units k) (present 0 xs ++ os) p
  set-in k xs os at p is few =
      let full = full_slot-some k xs at is in
      let here = slot-lookup k xs at few full in
      insert-in k xs os at p is few ∙ insert-there k p full.held (present 0 xs ++ os) (lookup-append (same_units k) (present 0 xs) os ∙ rw here refl)

  pub remove-in : (k : List ℕ) (xs : List (Option P)) (os : List (List ℕ × P)) (at : ℕ) → full_slot k xs ≡ Some at → length xs ≤ 4294967295 → present 0 (set xs at None) ++ os ≡ remove_entry (same_units k) (present 0 xs ++ os)
  remove-in k xs os at is few =
      let full = full_slot-some k xs at is in
      let here = slot-lookup k xs at few full in
      sym (remove-first (same_units k) full.held (present 0 xs) os here ∙ ap (λ l. l ++ os) (remove-slot k full.held at 0 at xs full.index (omega arith) (omega arith) full.holds))

  -- a key that has none
  pub found-behind : (k : List ℕ) (xs : List (Option P)) (os : List (List ℕ × P)) → full_slot k xs ≡ None → length xs ≤ 4294967295 → lookup (same_units k) os ≡ lookup (same_units k) (present 0 xs ++ os)
  found-behind k xs os is few =
      let out = full_slot-none k xs few is in
      sym (lookup-append (same_units k) (present 0 xs) os ∙ rw out refl)

  pub insert-behind : (k : List ℕ) (xs : List (Option P)) (os : List (List ℕ × P)) (p : P) → full_slot k xs ≡ None → length xs ≤ 4294967295 → present 0 xs ++ insert_entry same_units os k p ≡ insert_entry same_units (present 0 xs ++ os) k p
  insert-behind k xs os p is few = sym (insert-second k p (present 0 xs) os (full_slot-none k xs few is))

  pub set-behind : (k : List ℕ) (xs : List (Option P)) (os : List (List ℕ × P)) (p : P) → full_slot k xs ≡ None → length xs ≤ 4294967295 → present 0 xs ++ set_value (same_units k) os p ≡ set_value (same_units k) (present 0 xs ++ os) p
  set-behind k xs os p is few = sym (set-second (same_units k) p (present 0 xs) os (full_slot-none k xs few is))

  pub remove-behind : (k : List ℕ) (xs : List (Option P)) (os : List (List ℕ × P)) → full_slot k xs ≡ None → length xs ≤ 4294967295 → present 0 xs ++ remove_entry (same_units k) os ≡ remove_entry (same_units k) (present 0 xs ++ os)
  remove-behind k xs os is few = sym (remove-second (same_units k) (present 0 xs) os (full_slot-none k xs few is))

  -- a slot more, where nothing stands behind the slots
  pub insert-push : (k : List ℕ) (xs : List (Option P)) (os : List (List ℕ × P)) (i : ℕ) (p : P) → full_slot k xs ≡ None → length xs ≤ 4294967295 → array_index k ≡ Some i → i ≡ length xs → k ≡ number_units i → os ≡ [] → present 0 (xs ++ Some p ∷ []) ++ os ≡ insert_entry same_units (present 0 xs ++ os) k p
  insert-push k xs os i p is few index at text none =
      let there : number_units (0 + length xs) ≡ k = sym (text ∙ ap number_units (omega arith)) in
      rw none
      (append-nil (present 0 (xs ++ Some p ∷ [])) ∙ present-push 0 xs p ∙ rw there
      (sym (ap (λ l. insert_entry same_units l k p) (append-nil (present 0 xs)) ∙ insert-new k p (present 0 xs) (full_slot-none k xs few is))))

  -- what is kept

  pub set-kept : {b : Bool} (xs : List (Option P)) (os : List (List ℕ × P)) (at : ℕ) (x : Option P) → IsIndexed xs os b → IsIndexed (set xs at x) os b
  set-kept xs os at x kept = record {
    bounded = omega (arith, kept.bounded, length-set xs at x);
    slotted = λ some. kept.slotted (omega (arith, some, length-set xs at x));
    apart = kept.apart;
  }

  set-no_index : (t : List ℕ → Bool) (p : P) (os : List (List ℕ × P)) → NoIndex os → NoIndex (set_value t os p)
  set-no_index t p [] h = tt
  set-no_index t p (e ∷ es) h =
      elim (t e.0) as (λ b. NoIndex (cond b ((e.0, p) ∷ es) (e ∷ set_value t es p))) [
        | true ↦ (h.0, h.1)
        | false ↦ (h.0, set-no_index t p es h.1)
      ]

  remove-no_index : (t : List ℕ → Bool) (os : List (List ℕ × P)) → NoIndex os → NoIndex (remove_entry t os)
  remove-no_index t [] h = tt
  remove-no_index t (e ∷ es) h =
      elim (t e.0) as (λ b. NoIndex (cond b es (e ∷ remove_entry t es))) [
        | true ↦ h.1
        | false ↦ (h.0, remove-no_index t es h.1)
      ]

  insert-no_index : (k : List ℕ) (p : P) (os : List (List ℕ × P)) → array_index k ≡ None → NoIndex os → NoIndex (insert_entry same_units os k p)
  insert-no_index k p [] other h = (other, tt)
  insert-no_index k p (e ∷ es) other h =
      elim (same_units k e.0) as (λ b. NoIndex (cond b ((e.0, p) ∷ es) (e ∷ insert_entry same_units es k p))) [
        | true ↦ (h.0, h.1)
        | false ↦ (h.0, insert-no_index k p es other h.1)
      ]

  pub set-kept-behind : {b : Bool} (t : List ℕ → Bool) (p : P) (xs : List (Option P)) (os : List (List ℕ × P)) → IsIndexed xs os b → IsIndexed xs (set_value t os p) b
  set-kept-behind t p xs os kept = record { bounded = kept.bounded; slotted = kept.slotted; apart = λ some. set-no_index t p os (kept.apart some) }

  pub remove-kept-behind : {b : Bool} (t : List ℕ → Bool) (xs : List (Option P)) (os : List (List ℕ × P)) → IsIndexed xs os b → IsIndexed xs (remove_entry t os) b
  remove-kept-behind t xs os kept = record { bounded = kept.bounded; slotted = kept.slotted; apart = λ some. remove-no_index t os (kept.apart some) }

  pub insert-kept-behind : {b : Bool} (k : List ℕ) (p : P) (xs : List (Option P)) (os : List (List ℕ × P)) → array_index k ≡ None → IsIndexed xs os b → IsIndexed xs (insert_entry same_units os k p) b
  insert-kept-behind k p xs os other kept = record { bounded = kept.bounded; slotted = kept.slotted; apart = λ some. insert-no_index k p os other (kept.apart some) }

  pub push-kept : (xs : List (Option P)) (os : List (List ℕ × P)) (b : Bool) (x : Option P) → length xs < 4294967295 → os ≡ [] → b ≡ false → IsIndexed (xs ++ x ∷ []) os b
  push-kept xs os b x few none unmixed = record {
    bounded = omega (arith, few, length-append xs (x ∷ []));
    slotted = λ some. unmixed;
    apart = λ some. let all : NoIndex {P = P} [] = tt in subst NoIndex (sym none) all;
  }

  pub mixed-kept : (xs : List (Option P)) (os rest : List (List ℕ × P)) (b : Bool) → b ≡ true → IsIndexed xs os b → IsIndexed xs rest b
  mixed-kept xs os rest b mixed kept = record { bounded = kept.bounded; slotted = kept.slotted; apart = λ none. absurd (let e : true ≡ false = sym mixed ∙ none in cc) }

  -- all as a table: a slot more, and a key behind the slots more

  pub slot-more : (xs : List (Option P)) (i : ℕ) (p : P) (d : Option P) → length xs ≤ 4294967295 → i < length xs → get_or xs i d ≡ Some p → insert_entry same_units (present 0 (take i xs)) (number_units i) p ≡ present 0 (take (i + 1) xs)
  slot-more xs i p d few within read =
      let count : length (take i xs) ≡ i = length-take-le i xs (omega arith) in
      let index : array_index (number_units i) ≡ Some i = array_index-number (number_units i) i refl (omega arith) in
      let out = lookup-slot (number_units i) i 0 i (take i xs) index (omega arith) (omega (arith, count)) ∙ ap slot_value (past_end (take i xs) i (omega (arith, count))) in
      let place : 0 + length (take i xs) ≡ i = omega (arith, count) in
      let more : take (i + 1) xs ≡ take i xs ++ Some p ∷ [] = take_more xs i d within ∙ ap (λ x. take i xs ++ x ∷ []) read in
      insert-new (number_units i) p (present 0 (take i xs)) out
      ∙ sym (ap (present 0) more ∙ present-push 0 (take i xs) p ∙ ap (λ n. present 0 (take i xs) ++ (number_units n, p) ∷ []) place)

  pub slot-empty : (xs : List (Option P)) (i : ℕ) (d : Option P) → i < length xs → get_or xs i d ≡ None → present 0 (take i xs) ≡ present 0 (take (i + 1) xs)
  slot-empty xs i d within read =
      let more : take (i + 1) xs ≡ take i xs ++ None ∷ [] = take_more xs i d within ∙ ap (λ x. take i xs ++ x ∷ []) read in
      sym (ap (present 0) more ∙ present-empty 0 (take i xs))

  no_index-at : (os : List (List ℕ × P)) (at : ℕ) (e : List ℕ × P) → NoIndex os → slice_get os at ≡ Some e → array_index e.0 ≡ None
  no_index-at [] at e h is = cc
  no_index-at (x ∷ os) zero e h is = let same : x ≡ e = cc in rw (← same) h.0
  no_index-at (x ∷ os) (suc at) e h is = no_index-at os at e h.1 is

  not_in_slots : (xs : List (Option P)) (os : List (List ℕ × P)) (at : ℕ) (e : List ℕ × P) → IsIndexed xs os false → slice_get os at ≡ Some e → lookup (same_units e.0) (present 0 xs) ≡ None
  not_in_slots [] os at e kept is = refl
  not_in_slots (x ∷ xs) os at e kept is = lookup-apart e.0 0 (x ∷ xs) (apart-none e.0 0 (no_index-at os at e (kept.apart refl) is)) (omega (arith, kept.bounded))

  pub other-more : (xs : List (Option P)) (os : List (List ℕ × P)) (at : ℕ) (e : List ℕ × P) → IsIndexed xs os false → IsDistinct same_units (keys_of os) → slice_get os at ≡ Some e → insert_entry same_units (present 0 xs ++ take at os) e.0 e.1 ≡ present 0 xs ++ take (at + 1) os
  other-more xs os at e kept distinct is =
      let within = slice_get_within os at e is in
      let read : get_or os at e ≡ e = read_at os at e e is in
      let split : os ≡ take at os ++ e ∷ drop (suc at) os = sym (take-append-drop at os) ∙ ap (λ l. take at os ++ l) (drop-cons os at e within ∙ ap (λ x. x ∷ drop (suc at) os) read) in
      let before = absent_before nat_list_eq_equiv (take at os) (drop (suc at) os) e (subst (λ l. IsDistinct same_units (keys_of l)) split distinct) in
      let slots = not_in_slots xs os at e kept is in
      let out : lookup (same_units e.0) (present 0 xs ++ take at os) ≡ None = lookup-append (same_units e.0) (present 0 xs) (take at os) ∙ rw slots before in
      let more : take (at + 1) os ≡ take at os ++ e ∷ [] = take_more os at e within ∙ ap (λ x. take at os ++ x ∷ []) read in
      insert-new e.0 e.1 (present 0 xs ++ take at os) out ∙ append_assoc (present 0 xs) (take at os) (e ∷ []) ∙ sym (ap (λ l. present 0 xs ++ l) more)

  pub slot-step : (xs : List (Option P)) (i : ℕ) (x d : Option P) → length xs ≤ 4294967295 → i < length xs → x ≡ get_or xs i d → with_slot i x (present 0 (take i xs)) ≡ present 0 (take (i + 1) xs)
  slot-step xs i None d few within read = slot-empty xs i d within (sym read)
  slot-step xs i (Some p) d few within read = slot-more xs i p d few within (sym read)

  pub entry-step : (xs : List (Option P)) (os : List (List ℕ × P)) (at : ℕ) (o : Option (List ℕ × P)) → IsIndexed xs os false → IsDistinct same_units (keys_of os) → at < length os → slice_get os at ≡ o → with_entry o (present 0 xs ++ take at os) ≡ present 0 xs ++ take (at + 1) os
  entry-step xs os at None kept distinct within is = absurd (not_past os at within is)
    where
      not_past : {X : Type 0} (ys : List X) (i : ℕ) → i < length ys → slice_get ys i ≡ None → ⊥
      not_past [] i h e = omega arith
      not_past (y ∷ ys) zero h e = cc
      not_past (y ∷ ys) (suc i) h e = not_past ys i (omega arith) e
  entry-step xs os at (Some e) kept distinct within is = other-more xs os at e kept distinct is

  -- the slot of an index is that of its text

  pub slot-at : (xs : List (Option P)) (i at : ℕ) → length xs ≤ 4294967295 → full_at xs (Some i) ≡ Some at → full_slot (number_units i) xs ≡ Some at
  slot-at xs i at few is =
      let full = full_at-some xs (Some i) at is in
      let same : i ≡ at = let e = full.0 in cc in
      let within = is_full-within xs at full.1 in
      ap (full_at xs) (array_index-number (number_units i) i refl (omega arith)) ∙ is
    where
      is_full-within : (ys : List (Option P)) (j : ℕ) → is_full (slice_get ys j) ≡ true → j < length ys
      is_full-within [] j h = cc
      is_full-within (y ∷ ys) zero h = omega arith
      is_full-within (y ∷ ys) (suc j) h = let rest = is_full-within ys j h in omega arith

  pub no_slot-at : (xs : List (Option P)) (i : ℕ) → i < 4294967295 → full_at xs (Some i) ≡ None → full_slot (number_units i) xs ≡ None
  no_slot-at xs i small is = ap (full_at xs) (array_index-number (number_units i) i refl small) ∙ is

  -- the keys below an index

  filter-kept : (f : List ℕ × P → Bool) (os : List (List ℕ × P)) → NoIndex os → NoIndex (filter f os)
  filter-kept f [] h = tt
  filter-kept f (e ∷ es) h =
      elim (f e) as (λ b. NoIndex (cond b (e ∷ filter f es) (filter f es))) [
        | true ↦ (h.0, filter-kept f es h.1)
        | false ↦ filter-kept f es h.1
      ]

  pub drop_from-kept : {b : Bool} (n : ℕ) (f : List ℕ × P → Bool) (xs : List (Option P)) (os : List (List ℕ × P)) → IsIndexed xs os b → IsIndexed (take n xs) (filter f os) b
  drop_from-kept n f xs os kept = record {
    bounded = omega (arith, kept.bounded, length-take n xs);
    slotted = λ some. kept.slotted (omega (arith, some, length-take n xs));
    apart = λ none. filter-kept f os (kept.apart none);
  }

  pub drop_from-is : {b : Bool} (n : ℕ) (xs : List (Option P)) (os : List (List ℕ × P)) → IsIndexed xs os b → present 0 (take n xs) ++ filter (λ (e : List ℕ × P). not (is_index_from n e.0)) os ≡ filter (λ (e : List ℕ × P). not (is_index_from n e.0)) (present 0 xs ++ os)
  drop_from-is n xs os kept =
      sym (filter-append (λ (e : List ℕ × P). not (is_index_from n e.0)) (present 0 xs) os
      ∙ ap (λ l. l ++ filter (λ (e : List ℕ × P). not (is_index_from n e.0)) os) (filter-present n 0 n xs (omega arith) (omega (arith, kept.bounded))))

  -- an index that no slot has, where no key behind the slots is one

  behind_none : (k : List ℕ) (i : ℕ) (os : List (List ℕ × P)) → array_index k ≡ Some i → NoIndex os → lookup (same_units k) os ≡ None
  behind_none k i [] at h = refl
  behind_none k i (e ∷ es) at h =
      let other : same_units k e.0 ≡ false = not_same k e.0 i at h.0 in
      rw other (behind_none k i es at h.1)
    where
      not_same : (j m : List ℕ) (n : ℕ) → array_index j ≡ Some n → array_index m ≡ None → same_units j m ≡ false
      not_same j m n is none =
          let cases = elim (same_units j m) as (λ b. same_units j m ≡ b → b ≡ false) [
            | true ↦ λ same. let here : j ≡ m = same_text j m (sym same) in let both : Some n ≡ None = sym is ∙ ap array_index here ∙ none in cc
            | false ↦ λ same. refl
          ] in cases refl

  pub none-at : {b : Bool} (xs : List (Option P)) (os : List (List ℕ × P)) (i : ℕ) → i < 4294967295 → IsIndexed xs os b → b ≡ false → full_at xs (Some i) ≡ None → lookup (same_units (number_units i)) (present 0 xs ++ os) ≡ None
  none-at xs os i small kept unmixed is =
      let index = array_index-number (number_units i) i refl small in
      sym (found-behind (number_units i) xs os (no_slot-at xs i small is) kept.bounded) ∙ behind_none (number_units i) i os index (kept.apart unmixed)
