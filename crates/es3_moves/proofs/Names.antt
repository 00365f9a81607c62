-- Where a name stands in a scope, and what a value for it leaves.
use Rattle.std.proofs.Common.{◌≡◌, ℕ, suc, ◌+◌, ◌<◌, ◌≤◌, Bool, true, false, List, [], ◌∷◌, ◌++◌, Option, Some, None, length, get_or, set, cond, not, nat_lt, refl, sym, ap, ◌∙◌, arith}
use Rattle.std.specs.List.{position, position_or_len}
use Rattle.std.proofs.lemmas.Bool.Decides.{nat_tests}
use Rattle.caja_units.specs.Units.{same_units}
use Rattle.es3_objects.specs.declared.value.Value.{Value}
use Rattle.es3_language.specs.Store.{with_name}

abbrev pub is_named : List ℕ → List ℕ × Value → Bool
is_named x b = same_units x b.0

abbrev place : List ℕ → List (List ℕ × Value) → ℕ
place x bs = position_or_len (is_named x) bs

one_more : (n : ℕ) → 1 + n ≡ suc n
one_more n = omega arith

with_name-within : (x : List ℕ) (v : Value) (bs : List (List ℕ × Value)) (d : List ℕ × Value) → place x bs < length bs → with_name x v bs ≡ set bs (place x bs) ((get_or bs (place x bs) d).0, v)
with_name-within x v [] d h = absurd (omega arith)
with_name-within x v ((y, w) ∷ bs) d h =
    let cases = elim (same_units x y) as (λ b. cond (not b) (1 + place x bs) 0 < suc (length bs) → cond b ((y, v) ∷ bs) ((y, w) ∷ with_name x v bs) ≡ set ((y, w) ∷ bs) (cond (not b) (1 + place x bs) 0) ((get_or ((y, w) ∷ bs) (cond (not b) (1 + place x bs) 0) d).0, v)) [
      | true ↦ λ less. refl
      | false ↦ λ less. rw (one_more (place x bs)) (ap (λ cs. (y, w) ∷ cs) (with_name-within x v bs d (omega arith)))
    ] in cases h

with_name-past : (x : List ℕ) (v : Value) (bs : List (List ℕ × Value)) → length bs ≤ place x bs → with_name x v bs ≡ bs ++ (x, v) ∷ []
with_name-past x v [] h = refl
with_name-past x v ((y, w) ∷ bs) h =
    let cases = elim (same_units x y) as (λ b. suc (length bs) ≤ cond (not b) (1 + place x bs) 0 → cond b ((y, v) ∷ bs) ((y, w) ∷ with_name x v bs) ≡ (y, w) ∷ (bs ++ (x, v) ∷ [])) [
      | true ↦ λ less. absurd (omega arith)
      | false ↦ λ less. ap (λ cs. (y, w) ∷ cs) (with_name-past x v bs (omega arith))
    ] in cases h

position_some : (x : List ℕ) (bs : List (List ℕ × Value)) (at : ℕ) → position (is_named x) bs ≡ Some at → (place x bs ≡ at) × (place x bs < length bs)
position_some x bs at e =
    let cases = elim (nat_lt (place x bs) (length bs)) as (λ b. nat_lt (place x bs) (length bs) ≡ b → cond b (Some (place x bs)) None ≡ Some at → (place x bs ≡ at) × (place x bs < length bs)) [
      | true ↦ λ is h. (cc, grind (arith, nat_tests))
      | false ↦ λ is h. cc
    ] in cases refl e

position_none : (x : List ℕ) (bs : List (List ℕ × Value)) → position (is_named x) bs ≡ None → length bs ≤ place x bs
position_none x bs e =
    let cases = elim (nat_lt (place x bs) (length bs)) as (λ b. nat_lt (place x bs) (length bs) ≡ b → ◌≡◌ {A = Option ℕ} (cond b (Some (place x bs)) None) None → length bs ≤ place x bs) [
      | true ↦ λ is h. cc
      | false ↦ λ is h. grind (arith, nat_tests)
    ] in cases refl e

-- a value where the name stands
pub set-with_name : (x : List ℕ) (v : Value) (bs : List (List ℕ × Value)) (at : ℕ) (b : List ℕ × Value) → position (is_named x) bs ≡ Some at → b ≡ get_or bs at b → set bs at (b.0, v) ≡ with_name x v bs
set-with_name x v bs at b e is =
    let here = position_some x bs at e in
    let same : get_or bs (place x bs) b ≡ b = rw here.0 (sym is) in
    sym (with_name-within x v bs b here.1 ∙ rw (same, here.0) refl)

pub push-with_name : (x : List ℕ) (v : Value) (bs : List (List ℕ × Value)) → position (is_named x) bs ≡ None → bs ++ (x, v) ∷ [] ≡ with_name x v bs
push-with_name x v bs e = sym (with_name-past x v bs (position_none x bs e))
