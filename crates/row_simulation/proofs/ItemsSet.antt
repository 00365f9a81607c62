-- Where the properties of an array are its length and its items alone, setting other items leaves the new length and those items.
use Rattle.std.proofs.Common.{◌≡◌, ℕ, suc, ◌+◌, ◌-◌, ◌<◌, ◌≤◌, true, false, List, [], ◌∷◌, ◌++◌, length, cond, refl, sym, ap, ◌∙◌, append_assoc, arith}
use Rattle.std.specs.Prelude.{nat_lt, not, pos, take}
use Rattle.std.specs.List.{filter}
use Rattle.std.proofs.Math.Seq.{take-nil}
use Rattle.std.proofs.lemmas.List.{append-nil, length-take}
use Rattle.std.proofs.lemmas.Bool.Decides.{nat_tests}
use Rattle.caja_units.specs.Index.{number_units}
use Rattle.caja_units.proofs.Indices.{array_index-number}
use Rattle.es3_objects.specs.declared.value.Value.{Value}
use Rattle.es3_objects.specs.declared.value.Value.TheVariants.{Num}
use Rattle.es3_heap.specs.Objects.{Property, plain_attrs, fixed_attrs}
use Rattle.es3_heap.specs.Properties.{defined, length_key}
use Rattle.es3_heap.specs.Making.{length_property, item_properties}
use Rattle.es3_heap.specs.Items.{is_past, with_items, items_set}
use Rattle.es3_objects.proofs.Keys.{same_key-refl}
use Rattle.row_simulation.proofs.Items.{array_index-length, index-not_length, index-other}

abbrev item : ℕ → Value → Property
item i v = record { key = number_units i; value = v; attrs = plain_attrs }

-- the items below the new length stay

abbrev kept : ℕ → List Property → List Property
kept n ps = filter (λ p. not (is_past n p)) ps

kept_items : (n i : ℕ) (vs : List Value) → i + length vs < 4294967296 → kept n (item_properties i vs) ≡ item_properties i (take (n - i) vs)
kept_items n i [] few = ap (λ xs. item_properties i xs) (sym (take-nil (n - i)))
kept_items n i (v ∷ vs) few =
    let index = array_index-number (number_units i) i refl (omega (arith, few)) in
    let rest = kept_items n (i + 1) vs (omega (arith, few)) in
    let cases = elim (nat_lt i n) as (λ b. nat_lt i n ≡ b → cond (not (not b)) (item i v ∷ kept n (item_properties (i + 1) vs)) (kept n (item_properties (i + 1) vs)) ≡ item_properties i (take (n - i) (v ∷ vs))) [
      | true ↦ λ e. let more : n - i ≡ suc (n - (i + 1)) = grind (arith, nat_tests) in rw (more, rest) refl
      | false ↦ λ e. let none : n - i ≡ 0 = grind (arith, nat_tests) in let none' : n - (i + 1) ≡ 0 = omega (arith, none) in rw (none, rest, none') refl
    ] in rw index (cases refl)

kept_all : (n m : ℕ) (vs : List Value) → length vs < 4294967296 → kept n (length_property m ∷ item_properties 0 vs) ≡ length_property m ∷ item_properties 0 (take n vs)
kept_all n m vs few = let whole : n - 0 ≡ n = omega arith in rw array_index-length (ap (λ ps. length_property m ∷ ps) (kept_items n 0 vs (omega (arith, few)) ∙ ap (λ k. item_properties 0 (take k vs)) whole))

-- an item that isn't there goes past those of lower indices, and the length

abbrev Below : ℕ → List Property → Type 0
Below i front = (j : ℕ) (v : Value) (rest : List Property) → i ≤ j → j < 4294967295 → defined (number_units j) v plain_attrs (front ++ rest) ≡ front ++ defined (number_units j) v plain_attrs rest

below_length : (m : ℕ) → Below 0 (length_property m ∷ [])
below_length m j v rest from small = rw (index-not_length j small) refl

below_item : (i : ℕ) (u : Value) (front : List Property) → Below i front → Below (i + 1) (front ++ item i u ∷ [])
below_item i u front below j v rest from small =
    ap (defined (number_units j) v plain_attrs) (append_assoc front (item i u ∷ []) rest)
    ∙ below j v (item i u ∷ rest) (omega (arith, from)) small
    ∙ rw (index-other i j small (omega (arith, from))) (sym (append_assoc front (item i u ∷ []) (defined (number_units j) v plain_attrs rest)))

-- those that stay get the new values, and the others go last
items_written : (i : ℕ) (us ws : List Value) (front : List Property) → Below i front → length ws ≤ length us → i + length us < 4294967296 → with_items i us (front ++ item_properties i ws) ≡ front ++ item_properties i us
items_written i [] [] front below less few = refl
items_written i [] (w ∷ ws) front below less few = absurd (omega (arith, less))
items_written i (u ∷ us) [] front below less few =
    let first : defined (number_units i) u plain_attrs (front ++ []) ≡ (front ++ item i u ∷ []) ++ item_properties (i + 1) [] = below i u [] (omega arith) (omega (arith, few)) ∙ sym (append-nil (front ++ item i u ∷ [])) in
    ap (with_items (i + 1) us) first
    ∙ items_written (i + 1) us [] (front ++ item i u ∷ []) (below_item i u front below) (omega arith) (omega (arith, few))
    ∙ append_assoc front (item i u ∷ []) (item_properties (i + 1) us)
items_written i (u ∷ us) (w ∷ ws) front below less few =
    let here : defined (number_units i) u plain_attrs (item i w ∷ item_properties (i + 1) ws) ≡ item i u ∷ item_properties (i + 1) ws = rw (same_key-refl (number_units i)) refl in
    let first : defined (number_units i) u plain_attrs (front ++ item_properties i (w ∷ ws)) ≡ (front ++ item i u ∷ []) ++ item_properties (i + 1) ws =
    below i u (item_properties i (w ∷ ws)) (omega arith) (omega (arith, few)) ∙ ap (λ ps. front ++ ps) here ∙ sym (append_assoc front (item i u ∷ []) (item_properties (i + 1) ws)) in
    ap (with_items (i + 1) us) first
    ∙ items_written (i + 1) us ws (front ++ item i u ∷ []) (below_item i u front below) (omega (arith, less)) (omega (arith, few))
    ∙ append_assoc front (item i u ∷ []) (item_properties (i + 1) us)

pub items_set_are : (m : ℕ) (vs us : List Value) → length vs < 4294967296 → length us < 4294967296 → items_set us (length_property m ∷ item_properties 0 vs) ≡ length_property (length us) ∷ item_properties 0 us
items_set_are m vs us few few' =
    let n = length us in
    ap (λ ps. with_items 0 us (defined length_key (Num (pos n)) fixed_attrs ps)) (kept_all n m vs few)
    ∙ rw (same_key-refl length_key) (items_written 0 us (take n vs) (length_property n ∷ []) (below_length n) (let l = length-take n vs in omega (arith, l)) (omega (arith, few')))
