-- Where the attribute of a name stands, and what a write there leaves.
use Rattle.std.proofs.Common.{◌≡◌, ℕ, suc, ◌+◌, ◌<◌, ◌≤◌, true, false, List, [], ◌∷◌, ◌++◌, Option, Some, None, length, get_or, set, cond, not, nat_lt, refl, sym, ap, ◌∙◌, arith}
use Rattle.std.specs.List.{position, position_or_len}
use Rattle.std.proofs.lemmas.Bool.Decides.{nat_tests}
use Rattle.caja_units.specs.Units.{same_units}
use Rattle.html_tree.specs.declared.Attr.{Attr}
use Rattle.doc_nodes.specs.Rows.{is_named}
use Rattle.doc_nodes.specs.Changes.{with_value}

abbrev place : List ℕ → List Attr → ℕ
place k xs = position_or_len (is_named k) xs

abbrev with : Attr → List ℕ → Attr
with a v = record { name = a.name; value = v }

one_more : (n : ℕ) → 1 + n ≡ suc n
one_more n = omega arith

within : (k v : List ℕ) (xs : List Attr) (d : Attr) → place k xs < length xs → with_value k v xs ≡ set xs (place k xs) (with (get_or xs (place k xs) d) v)
within k v [] d h = absurd (omega arith)
within k v (a ∷ xs) d h =
    let cases = elim (same_units a.name k) as (λ b. cond (not b) (1 + place k xs) 0 < suc (length xs) → cond b (with a v ∷ xs) (a ∷ with_value k v xs) ≡ set (a ∷ xs) (cond (not b) (1 + place k xs) 0) (with (get_or (a ∷ xs) (cond (not b) (1 + place k xs) 0) d) v)) [
      | true ↦ λ less. refl
      | false ↦ λ less. rw (one_more (place k xs)) (ap (λ ys. a ∷ ys) (within k v xs d (omega arith)))
    ] in cases h

past : (k v : List ℕ) (xs : List Attr) → length xs ≤ place k xs → with_value k v xs ≡ xs ++ record { name = k; value = v } ∷ []
past k v [] h = refl
past k v (a ∷ xs) h =
    let cases = elim (same_units a.name k) as (λ b. suc (length xs) ≤ cond (not b) (1 + place k xs) 0 → cond b (with a v ∷ xs) (a ∷ with_value k v xs) ≡ a ∷ (xs ++ record { name = k; value = v } ∷ [])) [
      | true ↦ λ less. absurd (omega arith)
      | false ↦ λ less. ap (λ ys. a ∷ ys) (past k v xs (omega arith))
    ] in cases h

position_some : (k : List ℕ) (xs : List Attr) (at : ℕ) → position (is_named k) xs ≡ Some at → (place k xs ≡ at) × (place k xs < length xs)
position_some k xs at e =
    let cases = elim (nat_lt (place k xs) (length xs)) as (λ b. nat_lt (place k xs) (length xs) ≡ b → cond b (Some (place k xs)) None ≡ Some at → (place k xs ≡ at) × (place k xs < length xs)) [
      | true ↦ λ is h. (cc, grind (arith, nat_tests))
      | false ↦ λ is h. cc
    ] in cases refl e

position_none : (k : List ℕ) (xs : List Attr) → position (is_named k) xs ≡ None → length xs ≤ place k xs
position_none k xs e =
    let cases = elim (nat_lt (place k xs) (length xs)) as (λ b. nat_lt (place k xs) (length xs) ≡ b → ◌≡◌ {A = Option ℕ} (cond b (Some (place k xs)) None) None → length xs ≤ place k xs) [
      | true ↦ λ is h. cc
      | false ↦ λ is h. grind (arith, nat_tests)
    ] in cases refl e

-- an attribute that is there is written in its place
pub set-with_value : (k v : List ℕ) (xs : List Attr) (at : ℕ) (a d : Attr) → position (is_named k) xs ≡ Some at → a ≡ get_or xs at a → d ≡ with a v → set xs at d ≡ with_value k v xs
set-with_value k v xs at a d e is now =
    let here = position_some k xs at e in
    sym (within k v xs a here.1 ∙ rw (here.0, ← is, ← now) refl)

-- one that isn't there is new, and the last
pub push-with_value : (k v : List ℕ) (xs : List Attr) → position (is_named k) xs ≡ None → xs ++ record { name = k; value = v } ∷ [] ≡ with_value k v xs
push-with_value k v xs e = sym (past k v xs (position_none k xs e))
