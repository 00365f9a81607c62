-- An array that has nothing but its length and its items, in their order: what is found, and what is left of others in their place.
use Rattle.std.proofs.Common.{◌≡◌, ℕ, zero, suc, ◌+◌, ◌-◌, ◌<◌, ◌≤◌, not, filter, cond, true, false, List, [], ◌∷◌, ◌++◌, length, take, Option, Some, None, option_map, slice_get, get_or, pos, refl, ap, sym, ◌∙◌, arith}
use Rattle.std.proofs.lemmas.List.{length-map, length-append, take-map, take_all, length-take-le}
use Rattle.std.proofs.lemmas.Option.{slice_get-get_or}
use Rattle.caja_units.specs.Units.{same_units}
use Rattle.caja_units.specs.Index.{number_units}
use Rattle.caja_units.proofs.Indices.{array_index-number}
use Rattle.property_tables.specs.declared.field.Field.{Field}
use Rattle.property_tables.specs.Indexed.{present, slot_value}
use Rattle.property_tables.proofs.Present.{lookup-slot, filter-present}
use Rattle.es3_objects.specs.declared.value.Value.{Value}
use Rattle.es3_objects.specs.declared.value.Value.TheVariants.{Num, Undefined}
use Rattle.es3_objects.specs.declared.value.Attrs.{Attrs}
use Rattle.es3_objects.specs.Objects.{Property, plain_attrs, fixed_attrs}
use Rattle.es3_objects.specs.Properties.{find, value_of, length_of, defined, length_key}
use Rattle.es3_objects.specs.Items.{is_past, with_items, items_set, values_from, values_in, appended, last_value, set_where, without_last, IsDense}
use Rattle.es3_objects.specs.Making.{length_property, item_properties}
use Rattle.es3_objects.specs.Reading.{property}
use Rattle.es3_objects.specs.Held.{listed, with_length, plain_held, filled}
use Rattle.es3_objects.proofs.Keys.{same_key-refl}
use Rattle.es3_objects.proofs.Listed.{seen, field, find-item, items-listed, shortened-listed, shortened-length}

abbrev pub dense : ℕ → List Value → List Property
dense n xs = length_property n ∷ item_properties 0 xs

-- what is found

slot-filled : (xs : List Value) (i : ℕ) → slot_value (slice_get (filled xs) i) ≡ option_map plain_held (slice_get xs i)
slot-filled [] i = refl
slot-filled (x ∷ xs) zero = refl
slot-filled (x ∷ xs) (suc i) = slot-filled xs i

seen-plain : (k : List ℕ) (o : Option Value) → seen k (option_map plain_held o) ≡ option_map (λ v. property k v plain_attrs) o
seen-plain k None = refl
seen-plain k (Some v) = refl

length-filled : (xs : List Value) → length (filled xs) ≡ length xs
length-filled xs = length-map xs (λ v. Some (plain_held v))

pub find-dense : (n : ℕ) (xs : List Value) (i : ℕ) → i < 4294967295 → length xs ≤ 4294967295 → find (number_units i) (dense n xs) ≡ option_map (λ v. property (number_units i) v plain_attrs) (slice_get xs i)
find-dense n xs i small few =
    let k = number_units i in
    let index = array_index-number k i refl small in
    let short : 0 + length (filled xs) ≤ 4294967295 = omega (arith, length-filled xs, few) in
    ap (λ ps. find k (length_property n ∷ ps)) (sym (items-listed 0 xs))
    ∙ find-item (Some (field (Num (pos n)) fixed_attrs)) i (present 0 (filled xs)) small
    ∙ ap (seen k) (lookup-slot k i 0 i (filled xs) index (omega arith) short ∙ slot-filled xs i)
    ∙ seen-plain k (slice_get xs i)

-- items that are those from an index on
abbrev IsTail : List Value → List Value → ℕ → Type 0
IsTail xs ys i = (j : ℕ) → slice_get ys j ≡ slice_get xs (i + j)

tail-all : (xs : List Value) → IsTail xs xs 0
tail-all xs j = ap (slice_get xs) (omega arith)

tail-next : (xs ys : List Value) (y : Value) (i : ℕ) → IsTail xs (y ∷ ys) i → IsTail xs ys (i + 1)
tail-next xs ys y i tail j = tail (suc j) ∙ ap (slice_get xs) (omega arith)

tail-found : (n : ℕ) (xs ys : List Value) (y : Value) (i : ℕ) → i < 4294967295 → length xs ≤ 4294967295 → IsTail xs (y ∷ ys) i → find (number_units i) (dense n xs) ≡ Some (property (number_units i) y plain_attrs)
tail-found n xs ys y i small few tail =
    let place : i ≡ i + 0 = omega arith in
    let here : slice_get xs i ≡ Some y = ap (slice_get xs) place ∙ sym (tail 0) in
    find-dense n xs i small few ∙ ap (option_map (λ v. property (number_units i) v plain_attrs)) here

values-tail : (n : ℕ) (xs ys : List Value) (i : ℕ) → length xs ≤ 4294967295 → i + length ys ≤ 4294967295 → IsTail xs ys i → values_from (length ys) i (dense n xs) ≡ ys
values-tail n xs [] i few within tail = refl
values-tail n xs (y ∷ ys) i few within tail =
    ap (λ p. value_of p ∷ values_from (length ys) (i + 1) (dense n xs)) (tail-found n xs ys y i (omega arith) few tail)
    ∙ ap (λ l. y ∷ l) (values-tail n xs ys (i + 1) few (omega arith) (tail-next xs ys y i tail))

length-found : (n : ℕ) (xs : List Value) → find length_key (dense n xs) ≡ Some (length_property n)
length-found n xs = rw (same_key-refl length_key) refl

pub values-dense : (n : ℕ) (ps : List Property) → (d : IsDense n ps) → values_in ps ≡ d.items
values-dense n ps d =
    let few : length d.items ≤ 4294967295 = omega (arith, d.count, d.few) in
    ap values_in d.are ∙ ap (λ p. values_from (length_of (value_of p)) 0 (dense n d.items)) (length-found n d.items)
    ∙ ap (λ c. values_from c 0 (dense n d.items)) (sym d.count) ∙ values-tail n d.items d.items 0 few (omega arith) (tail-all d.items)

-- items that are written over themselves

defined-same : (k : List ℕ) (v : Value) (a : Attrs) (ps : List Property) → find k ps ≡ Some (property k v a) → defined k v a ps ≡ ps
defined-same k v a [] is = cc
defined-same k v a (p ∷ ps) is =
    let cases = elim (same_units k p.key) as (λ b. cond b (Some p) (find k ps) ≡ Some (property k v a) → cond b (property k v a ∷ ps) (p ∷ defined k v a ps) ≡ p ∷ ps) [
      | true ↦ λ found. let here : p ≡ property k v a = cc in ap (λ q. q ∷ ps) (sym here)
      | false ↦ λ found. ap (λ qs. p ∷ qs) (defined-same k v a ps found)
    ] in cases is

with_items-tail : (n : ℕ) (xs ys : List Value) (i : ℕ) → length xs ≤ 4294967295 → i + length ys ≤ 4294967295 → IsTail xs ys i → with_items i ys (dense n xs) ≡ dense n xs
with_items-tail n xs [] i few within tail = refl
with_items-tail n xs (y ∷ ys) i few within tail =
    ap (with_items (i + 1) ys) (defined-same (number_units i) y plain_attrs (dense n xs) (tail-found n xs ys y i (omega arith) few tail))
    ∙ with_items-tail n xs ys (i + 1) few (omega arith) (tail-next xs ys y i tail)

with_items-same : (n : ℕ) (xs : List Value) → length xs ≤ 4294967295 → with_items 0 xs (dense n xs) ≡ dense n xs
with_items-same n xs few = with_items-tail n xs xs 0 few (omega arith) (tail-all xs)

with_items-append : (xs ys : List Value) (i : ℕ) (ps : List Property) → with_items i (xs ++ ys) ps ≡ with_items (i + length xs) ys (with_items i xs ps)
with_items-append [] ys i ps = let here : i ≡ i + 0 = omega arith in ap (λ n. with_items n ys ps) here
with_items-append (x ∷ xs) ys i ps =
    let there : i + 1 + length xs ≡ i + suc (length xs) = omega arith in
    let qs = defined (number_units i) x plain_attrs ps in
    with_items-append xs ys (i + 1) qs ∙ ap (λ n. with_items n ys (with_items (i + 1) xs qs)) there

-- another length, and fewer items

length-defined : (m n : ℕ) (xs : List Value) → defined length_key (Num (pos m)) fixed_attrs (dense n xs) ≡ dense m xs
length-defined m n xs = rw (same_key-refl length_key) refl

below : (m n : ℕ) (xs : List Value) → length xs ≤ 4294967295 → filter (λ (p : Property). not (is_past m p)) (dense n xs) ≡ dense n (take m xs)
below m n xs few =
    let l : Option (Field Value Attrs) = Some (field (Num (pos n)) fixed_attrs) in
    let short : 0 + length (filled xs) ≤ 4294967295 = omega (arith, length-filled xs, few) in
    sym (shortened-length m l (item_properties 0 xs))
    ∙ ap (with_length l) (ap (filter (λ (p : Property). not (is_past m p))) (sym (items-listed 0 xs)) ∙ sym (shortened-listed m (present 0 (filled xs)))
    ∙ ap listed (filter-present m 0 m (filled xs) (omega arith) short) ∙ ap (λ s. listed (present 0 s)) (take-map (λ v. Some (plain_held v)) m xs) ∙ items-listed 0 (take m xs))

-- the array gets these items, which are no more than it has and the same, and others behind them

set-dense : (n m c : ℕ) (ps : List Property) (vs : List Value) → (d : IsDense n ps) → length vs ≡ c → m ≡ c → items_set vs ps ≡ with_items 0 vs (dense m (take m d.items))
set-dense n m c ps vs d count same =
    let few : length d.items ≤ 4294967295 = omega (arith, d.count, d.few) in
    let longer : length vs ≡ m = count ∙ sym same in
    ap (λ q. with_items 0 vs (defined length_key (Num (pos q)) fixed_attrs (filter (λ (p : Property). not (is_past q p)) ps))) longer
    ∙ ap (λ qs. with_items 0 vs (defined length_key (Num (pos m)) fixed_attrs qs)) (ap (filter (λ (p : Property). not (is_past m p))) d.are ∙ below m n d.items few)
    ∙ ap (with_items 0 vs) (length-defined m n (take m d.items))

pub appended-dense : (n m : ℕ) (ys : List Value) (ps : List Property) → IsDense n ps → m ≡ n + length ys → with_items n ys (defined length_key (Num (pos m)) fixed_attrs ps) ≡ appended ys ps
appended-dense n m ys ps d sum =
    let xs = d.items in
    let few : length xs ≤ 4294967295 = omega (arith, d.count, d.few) in
    let count : length (xs ++ ys) ≡ n + length ys = length-append xs ys ∙ ap (λ c. c + length ys) d.count in
    let all : take m xs ≡ xs = take_all m xs (omega (arith, d.count, sum)) in
    let start : 0 + length xs ≡ n = omega (arith, d.count) in
    let right : appended ys ps ≡ with_items n ys (dense m xs) =
    ap (λ vs. items_set (vs ++ ys) ps) (values-dense n ps d) ∙ set-dense n m (n + length ys) ps (xs ++ ys) d count sum ∙ ap (λ vs. with_items 0 (xs ++ ys) (dense m vs)) all
    ∙ with_items-append xs ys 0 (dense m xs) ∙ ap (λ i. with_items i ys (with_items 0 xs (dense m xs))) start ∙ ap (with_items n ys) (with_items-same m xs few) in
    ap (λ qs. with_items n ys (defined length_key (Num (pos m)) fixed_attrs qs)) d.are ∙ ap (with_items n ys) (length-defined m n xs) ∙ sym right

-- the last item, and the array without it

last-dense : (n : ℕ) (ps : List Property) → (d : IsDense n ps) → last_value ps ≡ slice_get d.items (n - 1)
last-dense n ps d = ap (λ vs. slice_get vs (length vs - 1)) (values-dense n ps d) ∙ ap (λ c. slice_get d.items (c - 1)) d.count

without-dense : (n : ℕ) (ps : List Property) → (d : IsDense n ps) → without_last ps ≡ set_where (slice_get d.items (n - 1)) (take (n - 1) d.items) ps
without-dense n ps d = ap (λ vs. set_where (slice_get vs (length vs - 1)) (take (length vs - 1) vs) ps) (values-dense n ps d) ∙ ap (λ c. set_where (slice_get d.items (c - 1)) (take (c - 1) d.items) ps) d.count

-- what stands at the last index
item-value : (k : List ℕ) (o : Option Value) (x : Value) → o ≡ Some x → o ≡ Some (value_of (option_map (λ v. property k v plain_attrs) o))
item-value k None x is = cc
item-value k (Some v) x is = refl

pub last-found : (n i : ℕ) (ps : List Property) → IsDense n ps → i + 1 ≡ n → last_value ps ≡ Some (value_of (find (number_units i) ps))
last-found n i ps d last =
    let xs = d.items in
    let few : length xs ≤ 4294967295 = omega (arith, d.count, d.few) in
    let place : n - 1 ≡ i = omega arith in
    let within : i < length xs = omega (arith, d.count) in
    last-dense n ps d ∙ ap (slice_get xs) place
    ∙ item-value (number_units i) (slice_get xs i) (get_or xs i Undefined) (slice_get-get_or xs i Undefined within)
    ∙ ap (λ p. Some (value_of p)) (sym (ap (find (number_units i)) d.are ∙ find-dense n xs i (omega (arith, d.few)) few))

pub shorter-dense : (n i : ℕ) (ps : List Property) → IsDense n ps → i + 1 ≡ n → defined length_key (Num (pos i)) fixed_attrs (filter (λ (p : Property). not (is_past i p)) ps) ≡ without_last ps
shorter-dense n i ps d last =
    let xs = d.items in
    let few : length xs ≤ 4294967295 = omega (arith, d.count, d.few) in
    let place : n - 1 ≡ i = omega arith in
    let within : i < length xs = omega (arith, d.count) in
    let count : length (take i xs) ≡ i = length-take-le i xs (omega arith) in
    let there = slice_get-get_or xs i Undefined within in
    let right : without_last ps ≡ dense i (take i xs) =
    without-dense n ps d ∙ ap (λ j. set_where (slice_get xs j) (take j xs) ps) place ∙ ap (λ o. set_where o (take i xs) ps) there
    ∙ set-dense n i i ps (take i xs) d count refl ∙ with_items-same i (take i xs) (omega (arith, count, d.few, last)) in
    ap (λ qs. defined length_key (Num (pos i)) fixed_attrs (filter (λ (p : Property). not (is_past i p)) qs)) d.are
    ∙ ap (defined length_key (Num (pos i)) fixed_attrs) (below i n xs few) ∙ length-defined i n (take i xs) ∙ sym right
