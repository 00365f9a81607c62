-- What the handles of items and of a record's keys stand for, where the values themselves stand behind others.
use Rattle.std.proofs.Common.{◌≡◌, ℕ, zero, suc, ◌+◌, true, false, List, [], ◌∷◌, ◌++◌, length, Some, cond, refl, sym, ap, ◌∙◌, subst, append_assoc, arith}
use Rattle.std.specs.Prelude.{slice_get, option_map, map}
use Rattle.std.specs.Cmp.Lexicographic.{same_text}
use Rattle.std.proofs.lemmas.List.{length-append}
use Rattle.caja_units.specs.Units.{same_units, is_hidden}
use Rattle.es3_objects.specs.declared.value.Value.{Value}
use Rattle.es3_heap.specs.Objects.{Property}
use Rattle.es3_heap.specs.Properties.{find}
use Rattle.rows.specs.Rows.{Native, held, handles, keyed_handles}
use Rattle.rows.specs.Public.{value_at}
use Rattle.heap_rows.specs.Doing.{value_in, guests}

-- the value behind others, and one more before the next one
behind : (before : List Value) (x : Value) (rest : List Value) (n : ℕ) → length before ≡ n → slice_get (before ++ x ∷ rest) n ≡ Some x
behind [] x rest n len = ap (slice_get (x ∷ rest)) (sym len)
behind (b ∷ before) x rest zero len = absurd (omega (arith, len))
behind (b ∷ before) x rest (suc n) len = behind before x rest n (omega (arith, len))

longer : (before : List Value) (x : Value) (n : ℕ) → length before ≡ n → length (before ++ x ∷ []) ≡ n + 1
longer before x n len = length-append before (x ∷ []) ∙ omega (arith, len)

-- an item by its handle, whatever else stands behind
pub item_held : (fs : Native → ℕ) (before xs more : List Value) (n i : ℕ) → length before ≡ n → option_map (value_in fs (before ++ (xs ++ more))) (slice_get (handles n xs) i) ≡ slice_get xs i
item_held fs before [] more n i len = refl
item_held fs before (x ∷ xs) more n zero len = rw (behind before x (xs ++ more) n len) refl
item_held fs before (x ∷ xs) more n (suc i) len =
    subst (λ l. option_map (value_in fs l) (slice_get (handles (n + 1) xs) i) ≡ slice_get xs i) (append_assoc before (x ∷ []) (xs ++ more))
    (item_held fs (before ++ x ∷ []) xs more (n + 1) i (longer before x n len))

pub length-handles : (n : ℕ) (xs : List Value) → length (handles n xs) ≡ length xs
length-handles n [] = refl
length-handles n (x ∷ xs) = ap suc (length-handles (n + 1) xs)

-- no key that modules see is a hidden one
seen_apart : (j k : List ℕ) → is_hidden j ≡ false → is_hidden k ≡ true → same_units j k ≡ false
seen_apart j k seen hidden =
    let cases = elim (same_units j k) as (λ b. same_units j k ≡ b → b ≡ false) [
      | true ↦ λ e. cc (sym seen ∙ ap is_hidden (same_text j k (sym e)) ∙ hidden)
      | false ↦ λ e. refl
    ] in cases refl

-- a record's value by the handle of its key
pub key_held : (fs : Native → ℕ) (k : List ℕ) (before : List Value) (ps : List Property) (more : List Value) (n : ℕ) → length before ≡ n → is_hidden k ≡ false
    → option_map (value_in fs (before ++ (map (λ p. p.1) (guests ps) ++ more))) (value_at k (keyed_handles n (guests ps))) ≡ option_map (λ p. p.value) (find k ps)
key_held fs k before [] more n len seen = refl
key_held fs k before (p ∷ ps) more n len seen =
    let qs = guests ps in
    let rest = map (λ p. p.1) qs ++ more in
    let cases = elim (is_hidden p.key) as (λ b. is_hidden p.key ≡ b → option_map (value_in fs (before ++ (map (λ p. p.1) (cond b qs ((p.key, p.value) ∷ qs)) ++ more))) (value_at k (keyed_handles n (cond b qs ((p.key, p.value) ∷ qs)))) ≡ option_map (λ p. p.value) (cond (same_units k p.key) (Some p) (find k ps))) [
      | true ↦ λ hidden. rw (seen_apart k p.key seen hidden) (key_held fs k before ps more n len seen)
      | false ↦ λ hidden. elim (same_units k p.key) as (λ b. option_map (value_in fs (before ++ p.value ∷ rest)) (cond b (Some (held n)) (value_at k (keyed_handles (n + 1) qs))) ≡ option_map (λ p. p.value) (cond b (Some p) (find k ps))) [
        | true ↦ rw (behind before p.value rest n len) refl
        | false ↦ subst (λ l. option_map (value_in fs l) (value_at k (keyed_handles (n + 1) qs)) ≡ option_map (λ p. p.value) (find k ps)) (append_assoc before (p.value ∷ []) rest)
            (key_held fs k (before ++ p.value ∷ []) ps more (n + 1) (longer before p.value n len) seen)
      ]
    ] in cases refl
