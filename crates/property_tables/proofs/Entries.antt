-- Keys with what stands at each, one list after another; and a key found by its place.
use Rattle.std.proofs.Common.{◌≡◌, ℕ, zero, suc, ◌+◌, ◌<◌, ◌≤◌, Bool, true, false, cond, not, List, [], ◌∷◌, ◌++◌, length, get_or, set, take, remove, slice_get, option_to_list, Option, Some, None, is_some, nat_lt, refl, ap, sym, ◌∙◌, arith}
use Rattle.std.proofs.lemmas.Bool.Decides.{nat_tests}
use Rattle.std.specs.List.{position, position_or_len}
use Rattle.std.specs.Map.{lookup, remove_entry, set_value, keys_of}
use Rattle.indexmap.specs.IndexMap.{insert_entry, set_value_at}
use Rattle.indexmap.proofs.MapLemmas.{Found-position, insert_entry-first}
use Rattle.caja_units.specs.Units.{same_units}

one_more : (n : ℕ) → 1 + n ≡ suc n
one_more n = omega arith

module _ {P : Type 0} where
  abbrev pub or_else : Option P → Option P → Option P
  or_else None q = q
  or_else (Some p) q = Some p

  pub lookup-append : (t : List ℕ → Bool) (xs ys : List (List ℕ × P)) → lookup t (xs ++ ys) ≡ or_else (lookup t xs) (lookup t ys)
  lookup-append t [] ys = refl
  lookup-append t (e ∷ es) ys =
      elim (t e.0) as (λ b. cond b (Some e.1) (lookup t (es ++ ys)) ≡ or_else (cond b (Some e.1) (lookup t es)) (lookup t ys)) [
        | true ↦ refl
        | false ↦ lookup-append t es ys
      ]

  -- a key that the first list has is looked for there alone, and one that it lacks in the second
  pub insert-first : (k : List ℕ) (p q : P) (xs ys : List (List ℕ × P)) → lookup (same_units k) xs ≡ Some q → insert_entry same_units (xs ++ ys) k p ≡ insert_entry same_units xs k p ++ ys
  insert-first k p q [] ys h = cc
  insert-first k p q (e ∷ es) ys h =
      let cases = elim (same_units k e.0) as (λ b. cond b (Some e.1) (lookup (same_units k) es) ≡ Some q → cond b ((e.0, p) ∷ (es ++ ys)) (e ∷ insert_entry same_units (es ++ ys) k p) ≡ cond b ((e.0, p) ∷ es) (e ∷ insert_entry same_units es k p) ++ ys) [
        | true ↦ λ is. refl
        | false ↦ λ is. ap (λ l. e ∷ l) (insert-first k p q es ys is)
      ] in cases h

  pub insert-second : (k : List ℕ) (p : P) (xs ys : List (List ℕ × P)) → lookup (same_units k) xs ≡ None → insert_entry same_units (xs ++ ys) k p ≡ xs ++ insert_entry same_units ys k p
  insert-second k p [] ys h = refl
  insert-second k p (e ∷ es) ys h =
      let cases = elim (same_units k e.0) as (λ b. cond b (Some e.1) (lookup (same_units k) es) ≡ None → cond b ((e.0, p) ∷ (es ++ ys)) (e ∷ insert_entry same_units (es ++ ys) k p) ≡ e ∷ (es ++ insert_entry same_units ys k p)) [
        | true ↦ λ is. cc
        | false ↦ λ is. ap (λ l. e ∷ l) (insert-second k p es ys is)
      ] in cases h

  pub set-first : (t : List ℕ → Bool) (p q : P) (xs ys : List (List ℕ × P)) → lookup t xs ≡ Some q → set_value t (xs ++ ys) p ≡ set_value t xs p ++ ys
  set-first t p q [] ys h = cc
  set-first t p q (e ∷ es) ys h =
      let cases = elim (t e.0) as (λ b. cond b (Some e.1) (lookup t es) ≡ Some q → cond b ((e.0, p) ∷ (es ++ ys)) (e ∷ set_value t (es ++ ys) p) ≡ cond b ((e.0, p) ∷ es) (e ∷ set_value t es p) ++ ys) [
        | true ↦ λ is. refl
        | false ↦ λ is. ap (λ l. e ∷ l) (set-first t p q es ys is)
      ] in cases h

  pub set-second : (t : List ℕ → Bool) (p : P) (xs ys : List (List ℕ × P)) → lookup t xs ≡ None → set_value t (xs ++ ys) p ≡ xs ++ set_value t ys p
  set-second t p [] ys h = refl
  set-second t p (e ∷ es) ys h =
      let cases = elim (t e.0) as (λ b. cond b (Some e.1) (lookup t es) ≡ None → cond b ((e.0, p) ∷ (es ++ ys)) (e ∷ set_value t (es ++ ys) p) ≡ e ∷ (es ++ set_value t ys p)) [
        | true ↦ λ is. cc
        | false ↦ λ is. ap (λ l. e ∷ l) (set-second t p es ys is)
      ] in cases h

  pub remove-first : (t : List ℕ → Bool) (q : P) (xs ys : List (List ℕ × P)) → lookup t xs ≡ Some q → remove_entry t (xs ++ ys) ≡ remove_entry t xs ++ ys
  remove-first t q [] ys h = cc
  remove-first t q (e ∷ es) ys h =
      let cases = elim (t e.0) as (λ b. cond b (Some e.1) (lookup t es) ≡ Some q → cond b (es ++ ys) (e ∷ remove_entry t (es ++ ys)) ≡ cond b es (e ∷ remove_entry t es) ++ ys) [
        | true ↦ λ is. refl
        | false ↦ λ is. ap (λ l. e ∷ l) (remove-first t q es ys is)
      ] in cases h

  pub remove-second : (t : List ℕ → Bool) (xs ys : List (List ℕ × P)) → lookup t xs ≡ None → remove_entry t (xs ++ ys) ≡ xs ++ remove_entry t ys
  remove-second t [] ys h = refl
  remove-second t (e ∷ es) ys h =
      let cases = elim (t e.0) as (λ b. cond b (Some e.1) (lookup t es) ≡ None → cond b (es ++ ys) (e ∷ remove_entry t (es ++ ys)) ≡ e ∷ (es ++ remove_entry t ys)) [
        | true ↦ λ is. cc
        | false ↦ λ is. ap (λ l. e ∷ l) (remove-second t es ys is)
      ] in cases h

  -- a key that is there keeps its place, and a new one goes last
  pub insert-there : (k : List ℕ) (p q : P) (es : List (List ℕ × P)) → lookup (same_units k) es ≡ Some q → insert_entry same_units es k p ≡ set_value (same_units k) es p
  insert-there k p q [] h = cc
  insert-there k p q (e ∷ es) h =
      let cases = elim (same_units k e.0) as (λ b. cond b (Some e.1) (lookup (same_units k) es) ≡ Some q → cond b ((e.0, p) ∷ es) (e ∷ insert_entry same_units es k p) ≡ cond b ((e.0, p) ∷ es) (e ∷ set_value (same_units k) es p)) [
        | true ↦ λ is. refl
        | false ↦ λ is. ap (λ l. e ∷ l) (insert-there k p q es is)
      ] in cases h

  pub insert-new : (k : List ℕ) (p : P) (es : List (List ℕ × P)) → lookup (same_units k) es ≡ None → insert_entry same_units es k p ≡ es ++ (k, p) ∷ []
  insert-new k p [] h = refl
  insert-new k p (e ∷ es) h =
      let cases = elim (same_units k e.0) as (λ b. cond b (Some e.1) (lookup (same_units k) es) ≡ None → cond b ((e.0, p) ∷ es) (e ∷ insert_entry same_units es k p) ≡ e ∷ (es ++ (k, p) ∷ [])) [
        | true ↦ λ is. cc
        | false ↦ λ is. ap (λ l. e ∷ l) (insert-new k p es is)
      ] in cases h

  pub remove-none : (t : List ℕ → Bool) (es : List (List ℕ × P)) → lookup t es ≡ None → remove_entry t es ≡ es
  remove-none t [] h = refl
  remove-none t (e ∷ es) h =
      let cases = elim (t e.0) as (λ b. cond b (Some e.1) (lookup t es) ≡ None → cond b es (e ∷ remove_entry t es) ≡ e ∷ es) [
        | true ↦ λ is. cc
        | false ↦ λ is. ap (λ l. e ∷ l) (remove-none t es is)
      ] in cases h

  -- what a key's place says

  abbrev pub has_key : List ℕ → List ℕ × P → Bool
  has_key k e = same_units k e.0

  abbrev place : List ℕ → List (List ℕ × P) → ℕ
  place k es = position_or_len (has_key k) es

  position_some : (k : List ℕ) (es : List (List ℕ × P)) (at : ℕ) → position (has_key k) es ≡ Some at → (place k es ≡ at) × (place k es < length es)
  position_some k es at e =
      let cases = elim (nat_lt (place k es) (length es)) as (λ b. nat_lt (place k es) (length es) ≡ b → cond b (Some (place k es)) None ≡ Some at → (place k es ≡ at) × (place k es < length es)) [
        | true ↦ λ is h. grind (arith, nat_tests)
        | false ↦ λ is h. cc
      ] in cases refl e

  position_none : (k : List ℕ) (es : List (List ℕ × P)) → position (has_key k) es ≡ None → length es ≤ place k es
  position_none k es e =
      let cases = elim (nat_lt (place k es) (length es)) as (λ b. nat_lt (place k es) (length es) ≡ b → cond b (Some (place k es)) None ≡ None → length es ≤ place k es) [
        | true ↦ λ is h. cc
        | false ↦ λ is h. grind (arith, nat_tests)
      ] in cases refl e

  insert-within : (k : List ℕ) (p : P) (es : List (List ℕ × P)) (d : List ℕ × P) → place k es < length es → insert_entry same_units es k p ≡ set es (place k es) ((get_or es (place k es) d).0, p)
  insert-within k p [] d h = absurd (omega arith)
  insert-within k p (e ∷ es) d h =
      let cases = elim (same_units k e.0) as (λ b. cond (not b) (1 + place k es) 0 < suc (length es) → cond b ((e.0, p) ∷ es) (e ∷ insert_entry same_units es k p) ≡ set (e ∷ es) (cond (not b) (1 + place k es) 0) ((get_or (e ∷ es) (cond (not b) (1 + place k es) 0) d).0, p)) [
        | true ↦ λ less. refl
        | false ↦ λ less. rw (one_more (place k es)) (ap (λ l. e ∷ l) (insert-within k p es d (omega arith)))
      ] in cases h

  lookup-past : (k : List ℕ) (es : List (List ℕ × P)) → length es ≤ place k es → lookup (same_units k) es ≡ None
  lookup-past k [] h = refl
  lookup-past k (e ∷ es) h =
      let cases = elim (same_units k e.0) as (λ b. suc (length es) ≤ cond (not b) (1 + place k es) 0 → cond b (Some e.1) (lookup (same_units k) es) ≡ None) [
        | true ↦ λ less. absurd (omega arith)
        | false ↦ λ less. lookup-past k es (omega arith)
      ] in cases h

  lookup-within : (k : List ℕ) (es : List (List ℕ × P)) (d : List ℕ × P) → place k es < length es → lookup (same_units k) es ≡ Some (get_or es (place k es) d).1
  lookup-within k [] d h = absurd (omega arith)
  lookup-within k (e ∷ es) d h =
      let cases = elim (same_units k e.0) as (λ b. cond (not b) (1 + place k es) 0 < suc (length es) → cond b (Some e.1) (lookup (same_units k) es) ≡ Some (get_or (e ∷ es) (cond (not b) (1 + place k es) 0) d).1) [
        | true ↦ λ less. refl
        | false ↦ λ less. rw (one_more (place k es)) (lookup-within k es d (omega arith))
      ] in cases h

  remove-within : (k : List ℕ) (es : List (List ℕ × P)) → place k es < length es → remove_entry (same_units k) es ≡ remove es (place k es)
  remove-within k [] h = absurd (omega arith)
  remove-within k (e ∷ es) h =
      let cases = elim (same_units k e.0) as (λ b. cond (not b) (1 + place k es) 0 < suc (length es) → cond b es (e ∷ remove_entry (same_units k) es) ≡ remove (e ∷ es) (cond (not b) (1 + place k es) 0)) [
        | true ↦ λ less. refl
        | false ↦ λ less. rw (one_more (place k es)) (ap (λ l. e ∷ l) (remove-within k es (omega arith)))
      ] in cases h

  pub set-inserted : (k : List ℕ) (p : P) (es : List (List ℕ × P)) (at : ℕ) (e : List ℕ × P) → position (has_key k) es ≡ Some at → e ≡ get_or es at e → set es at (e.0, p) ≡ insert_entry same_units es k p
  set-inserted k p es at e is same =
      let here = position_some k es at is in
      let read : get_or es (place k es) e ≡ e = rw here.0 (sym same) in
      sym (insert-within k p es e here.1 ∙ rw (read, here.0) refl)

  pub push-inserted : (k : List ℕ) (p : P) (es : List (List ℕ × P)) → position (has_key k) es ≡ None → es ++ (k, p) ∷ [] ≡ insert_entry same_units es k p
  push-inserted k p es is = sym (insert-new k p es (lookup-past k es (position_none k es is)))

  pub none-looked_up : (k : List ℕ) (es : List (List ℕ × P)) → position (has_key k) es ≡ None → lookup (same_units k) es ≡ None
  none-looked_up k es is = lookup-past k es (position_none k es is)

  pub some-looked_up : (k : List ℕ) (es : List (List ℕ × P)) (at : ℕ) → position (has_key k) es ≡ Some at → is_some (lookup (same_units k) es) ≡ true
  some-looked_up k [] at is = cc
  some-looked_up k (e ∷ es) at is = ap is_some (lookup-within k (e ∷ es) e (position_some k (e ∷ es) at is).1)

  pub none-removed : (k : List ℕ) (es : List (List ℕ × P)) → position (has_key k) es ≡ None → remove_entry (same_units k) es ≡ es
  none-removed k es is = remove-none (same_units k) es (none-looked_up k es is)

  pub some-removed : (k : List ℕ) (es : List (List ℕ × P)) (at : ℕ) → position (has_key k) es ≡ Some at → remove_entry (same_units k) es ≡ remove es at
  some-removed k es at is =
      let here = position_some k es at is in
      remove-within k es here.1 ∙ rw here.0 refl

  -- the same in a table, whose keys' places are known

  pub set-is_insert : (k : List ℕ) (p : P) (es : List (List ℕ × P)) → is_some (lookup (same_units k) es) ≡ true → set_value (same_units k) es p ≡ insert_entry same_units es k p
  set-is_insert k p [] h = cc
  set-is_insert k p (e ∷ es) h =
      let cases = elim (same_units k e.0) as (λ b. is_some (cond b (Some e.1) (lookup (same_units k) es)) ≡ true → cond b ((e.0, p) ∷ es) (e ∷ set_value (same_units k) es p) ≡ cond b ((e.0, p) ∷ es) (e ∷ insert_entry same_units es k p)) [
        | true ↦ λ is. refl
        | false ↦ λ is. ap (λ l. e ∷ l) (set-is_insert k p es is)
      ] in cases h

  pub set-none : (t : List ℕ → Bool) (p : P) (es : List (List ℕ × P)) → is_some (lookup t es) ≡ false → set_value t es p ≡ es
  set-none t p [] h = refl
  set-none t p (e ∷ es) h =
      let cases = elim (t e.0) as (λ b. is_some (cond b (Some e.1) (lookup t es)) ≡ false → cond b ((e.0, p) ∷ es) (e ∷ set_value t es p) ≡ e ∷ es) [
        | true ↦ λ is. cc
        | false ↦ λ is. ap (λ l. e ∷ l) (set-none t p es is)
      ] in cases h

  pub set-at : (k : List ℕ) (p : P) (es : List (List ℕ × P)) (at : ℕ) → position (same_units k) (keys_of es) ≡ Some at → set_value_at es at p ≡ insert_entry same_units es k p
  set-at k p es at is = sym (insert_entry-first same_units k p es at (Found-position (same_units k) es at is).first)

  -- a key more

  keys-append : (xs ys : List (List ℕ × P)) → keys_of (xs ++ ys) ≡ keys_of xs ++ keys_of ys
  keys-append [] ys = refl
  keys-append (x ∷ xs) ys = ap (λ ks. x.0 ∷ ks) (keys-append xs ys)

  take-next : (xs : List (List ℕ × P)) (i : ℕ) → take (suc i) xs ≡ take i xs ++ option_to_list (slice_get xs i)
  take-next [] zero = refl
  take-next [] (suc i) = refl
  take-next (x ∷ xs) zero = refl
  take-next (x ∷ xs) (suc i) = ap (λ l. x ∷ l) (take-next xs i)

  pub next-key : (es : List (List ℕ × P)) (at : ℕ) → keys_of (take at es) ++ keys_of (option_to_list (slice_get es at)) ≡ keys_of (take (at + 1) es)
  next-key es at =
      let next : at + 1 ≡ suc at = omega arith in
      sym (ap (λ n. keys_of (take n es)) next ∙ ap keys_of (take-next es at) ∙ keys-append (take at es) (option_to_list (slice_get es at)))
