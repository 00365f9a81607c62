-- The items of a new array are those that it was made of.
use Rattle.std.proofs.Common.{◌≡◌, ◌≢◌, ℕ, ◌+◌, ◌<◌, ◌≤◌, true, false, List, [], ◌∷◌, None, length, refl, ap, sym, ◌∙◌, arith}
use Rattle.std.specs.Fmt.{digits}
use Rattle.std.specs.Cmp.Lexicographic.{same_text}
use Rattle.std.proofs.lemmas.Option.{none-some}
use Rattle.std.proofs.lemmas.Fmt.{decimal_injective}
use Rattle.caja_units.specs.Units.{same_units}
use Rattle.caja_units.specs.Index.{array_index, number_units}
use Rattle.caja_units.proofs.Indices.{array_index-number}
use Rattle.es3_objects.specs.declared.value.Value.{Value}
use Rattle.es3_heap.specs.Objects.{Objects, with_object}
use Rattle.es3_heap.specs.Properties.{find, own, value_of, length_key}
use Rattle.es3_heap.specs.Making.{item_properties, array_object}
use Rattle.es3_objects.proofs.Keys.{same_key-refl}
use Rattle.es3_heap.proofs.Laws.{object_at-with_object}
use Rattle.es3_convert.specs.Conversions.{items_from, array_items}

-- two keys are alike only where they are the same
pub other_key : (j k : List ℕ) → j ≢ k → same_units j k ≡ false
other_key j k ne =
    elim (same_units j k) as (λ b. same_units j k ≡ b → b ≡ false) [
      | true ↦ λ is. absurd (ne (same_text j k (sym is)))
      | false ↦ λ is. refl
    ] refl

array_index-length : array_index length_key ≡ None
unfolding array_index digits
array_index-length = refl

-- the name `length` is no index
pub index-not_length : (j : ℕ) → j < 4294967295 → same_units (number_units j) length_key ≡ false
index-not_length j small =
    other_key (number_units j) length_key (λ e. none-some j (sym array_index-length ∙ ap array_index (sym e) ∙ array_index-number (number_units j) j refl small))

-- two indices are two keys
pub index-other : (i j : ℕ) → j < 4294967295 → i < j → same_units (number_units j) (number_units i) ≡ false
index-other i j small less =
    other_key (number_units j) (number_units i) (λ e. omega (arith, decimal_injective j i (omega arith) (omega arith) e))

-- where the indices from one on have the properties that the items are given, the items are these
items_from-properties : (vs : List Value) (i : ℕ) (h : Objects) (o : ℕ) → i + length vs < 4294967296
    → ((j : ℕ) → i ≤ j → j < 4294967295 → own h o (number_units j) ≡ find (number_units j) (item_properties i vs))
    → items_from (length vs) i h o ≡ vs
items_from-properties [] i h o few these = refl
items_from-properties (v ∷ vs) i h o few these =
    let here : value_of (own h o (number_units i)) ≡ v = rw (these i (omega arith) (omega arith), same_key-refl (number_units i)) refl in
    let rest : items_from (length vs) (i + 1) h o ≡ vs =
    items_from-properties vs (i + 1) h o (omega arith) (λ j from small. these j (omega arith) small ∙ rw (index-other i j small (omega arith)) refl) in
    rw (here, rest) refl

pub array_items_new : (h : Objects) (vs : List Value) → length vs < 4294967296 → array_items (with_object h (array_object vs)) (length h.list) ≡ vs
array_items_new h vs few =
    let o = length h.list in
    let g = with_object h (array_object vs) in
    let there = object_at-with_object h (array_object vs) in
    let counted : array_items g o ≡ items_from (length vs) 0 g o = rw there refl in
    counted ∙ items_from-properties vs 0 g o (omega arith) (λ j from small. rw (there, index-not_length j small) refl)
