-- Properties as they are held, and as they are seen: what is found, written and taken away.
use Rattle.std.proofs.Common.{◌≡◌, ℕ, ◌+◌, ◌<◌, Bool, true, false, not, cond, ◌&&◌, List, [], ◌∷◌, filter, Option, Some, None, is_some, option_map, refl, sym, ap, ◌∙◌}
use Rattle.std.specs.Map.{lookup, remove_entry, set_value}
use Rattle.caja_units.specs.Units.{same_units}
use Rattle.caja_units.specs.Index.{array_index, number_units}
use Rattle.caja_units.proofs.Indices.{array_index-number}
use Rattle.property_tables.specs.declared.field.Field.{Field}
use Rattle.property_tables.specs.Indexed.{insert_entry, present, is_index_from}
use Rattle.property_tables.proofs.Entries.{set-is_insert}
use Rattle.es3_objects.specs.declared.value.Value.{Value}
use Rattle.es3_objects.specs.declared.value.Attrs.{Attrs}
use Rattle.es3_objects.specs.Objects.{Property, plain_attrs}
use Rattle.es3_objects.specs.Properties.{find, written, revalued, defined, without, may_delete, length_key}
use Rattle.es3_objects.specs.Items.{is_past}
use Rattle.es3_objects.specs.Making.{item_properties}
use Rattle.es3_objects.specs.Reading.{property}
use Rattle.es3_objects.specs.Held.{listed, with_length, filled, attrs_found, attrs_held, taken}
use Rattle.es3_objects.proofs.Keys.{key_is}
use Rattle.es3_objects.proofs.Laws.{no_index, array_index-length}

abbrev pub field : Value → Attrs → Field Value Attrs
field v a = record { value = v; attrs = a }

abbrev pub seen : List ℕ → Option (Field Value Attrs) → Option Property
seen k o = option_map (λ f. property k f.value f.attrs) o

some_property : (j k : List ℕ) (f : Field Value Attrs) → j ≡ k → Some (property j f.value f.attrs) ≡ Some (property k f.value f.attrs)
some_property j k f e = ap (λ key. let p : Property = property key f.value f.attrs in Some p) e

pub find-listed : (k : List ℕ) (es : List (List ℕ × Field Value Attrs)) → find k (listed es) ≡ seen k (lookup (same_units k) es)
find-listed k [] = refl
find-listed k (e ∷ es) =
    let cases = elim (same_units k e.0) as (λ b. same_units k e.0 ≡ b → cond b (Some (property e.0 e.1.value e.1.attrs)) (find k (listed es)) ≡ seen k (cond b (Some e.1) (lookup (same_units k) es))) [
      | true ↦ λ is. some_property e.0 k e.1 (key_is k e.0 is)
      | false ↦ λ is. find-listed k es
    ] in cases refl

pub defined-listed : (k : List ℕ) (v : Value) (a : Attrs) (es : List (List ℕ × Field Value Attrs)) → listed (insert_entry same_units es k (field v a)) ≡ defined k v a (listed es)
defined-listed k v a [] = refl
defined-listed k v a (e ∷ es) =
    let cases = elim (same_units k e.0) as (λ b. same_units k e.0 ≡ b → listed (cond b ((e.0, field v a) ∷ es) (e ∷ insert_entry same_units es k (field v a))) ≡ cond b (property k v a ∷ listed es) (property e.0 e.1.value e.1.attrs ∷ defined k v a (listed es))) [
      | true ↦ λ is. ap (λ key. property key v a ∷ listed es) (key_is k e.0 is)
      | false ↦ λ is. ap (λ ps. property e.0 e.1.value e.1.attrs ∷ ps) (defined-listed k v a es)
    ] in cases refl

found-listed : (k : List ℕ) (o : Option (Field Value Attrs)) → is_some (seen k o) ≡ is_some o
found-listed k None = refl
found-listed k (Some f) = refl

pub replaced-listed : (k : List ℕ) (v : Value) (a : Attrs) (es : List (List ℕ × Field Value Attrs)) → is_some (find k (listed es)) ≡ true → listed (set_value (same_units k) es (field v a)) ≡ defined k v a (listed es)
replaced-listed k v a es there =
    let held = sym (found-listed k (lookup (same_units k) es)) ∙ sym (ap is_some (find-listed k es)) ∙ there in
    ap listed (set-is_insert k (field v a) es held) ∙ defined-listed k v a es

pub taken-listed : (k : List ℕ) (es : List (List ℕ × Field Value Attrs)) → listed (remove_entry (same_units k) es) ≡ taken k (listed es)
taken-listed k [] = refl
taken-listed k (e ∷ es) =
    elim (same_units k e.0) as (λ b. listed (cond b es (e ∷ remove_entry (same_units k) es)) ≡ cond b (listed es) (property e.0 e.1.value e.1.attrs ∷ taken k (listed es))) [
      | true ↦ refl
      | false ↦ ap (λ ps. property e.0 e.1.value e.1.attrs ∷ ps) (taken-listed k es)
    ]

same_from : (n : ℕ) (k : List ℕ) (v : Value) (a : Attrs) → is_index_from n k ≡ is_past n (property k v a)
same_from n k v a = elim (array_index k) as (λ o. Rattle.property_tables.specs.Indexed.is_from n o ≡ Rattle.es3_objects.specs.Items.is_from n o) [ None ↦ refl | Some i ↦ refl ]

pub shortened-listed : (n : ℕ) (es : List (List ℕ × Field Value Attrs)) → listed (filter (λ (e : List ℕ × Field Value Attrs). not (is_index_from n e.0)) es) ≡ filter (λ (p : Property). not (is_past n p)) (listed es)
shortened-listed n [] = refl
shortened-listed n (e ∷ es) =
    let rest = shortened-listed n es in
    let p : Property = property e.0 e.1.value e.1.attrs in
    let cases = elim (is_past n p) as (λ b. is_index_from n e.0 ≡ b → is_past n p ≡ b → listed (cond (not (is_index_from n e.0)) (e ∷ filter (λ (e : List ℕ × Field Value Attrs). not (is_index_from n e.0)) es) (filter (λ (e : List ℕ × Field Value Attrs). not (is_index_from n e.0)) es)) ≡ cond (not b) (p ∷ filter (λ (p : Property). not (is_past n p)) (listed es)) (filter (λ (p : Property). not (is_past n p)) (listed es))) [
      | true ↦ λ held seen. rw held rest
      | false ↦ λ held seen. rw held (ap (λ ps. p ∷ ps) rest)
    ] in cases (same_from n e.0 e.1.value e.1.attrs) refl

-- the items of a new array
pub items-listed : (i : ℕ) (vs : List Value) → listed (present i (filled vs)) ≡ item_properties i vs
items-listed i [] = refl
items-listed i (v ∷ vs) = ap (λ ps. property (number_units i) v plain_attrs ∷ ps) (items-listed (i + 1) vs)

-- a key that is that of a length held by itself

abbrev pub asks : Option (Field Value Attrs) → List ℕ → Bool
asks l k = is_some l && same_units k length_key

pub find-length : (l : Option (Field Value Attrs)) (k : List ℕ) (ps : List Property) → asks l k ≡ true → find k (with_length l ps) ≡ seen k l
find-length None k ps is = cc
find-length (Some f) k ps is = rw is (some_property length_key k f (key_is k length_key is))

pub find-other : (l : Option (Field Value Attrs)) (k : List ℕ) (ps : List Property) → asks l k ≡ false → find k (with_length l ps) ≡ find k ps
find-other None k ps is = refl
find-other (Some f) k ps is = rw is refl

pub defined-length : (l : Option (Field Value Attrs)) (k : List ℕ) (v : Value) (a : Attrs) (ps : List Property) → asks l k ≡ true → with_length (Some (field v a)) ps ≡ defined k v a (with_length l ps)
defined-length None k v a ps is = cc
defined-length (Some f) k v a ps is = rw is (ap (λ key. property key v a ∷ ps) (key_is k length_key is))

pub defined-other : (l : Option (Field Value Attrs)) (k : List ℕ) (v : Value) (a : Attrs) (ps : List Property) → asks l k ≡ false → with_length l (defined k v a ps) ≡ defined k v a (with_length l ps)
defined-other None k v a ps is = refl
defined-other (Some f) k v a ps is = rw is refl

pub taken-length : (l : Option (Field Value Attrs)) (k : List ℕ) (ps : List Property) → asks l k ≡ true → ps ≡ taken k (with_length l ps)
taken-length None k ps is = cc
taken-length (Some f) k ps is = rw is refl

pub taken-other : (l : Option (Field Value Attrs)) (k : List ℕ) (ps : List Property) → asks l k ≡ false → with_length l (taken k ps) ≡ taken k (with_length l ps)
taken-other None k ps is = refl
taken-other (Some f) k ps is = rw is refl

pub item-other : (l : Option (Field Value Attrs)) (i : ℕ) → i < 4294967295 → asks l (number_units i) ≡ false
item-other None i small = refl
item-other (Some f) i small = no_index (number_units i) i (array_index-number (number_units i) i refl small)

pub shortened-length : (n : ℕ) (l : Option (Field Value Attrs)) (ps : List Property) → with_length l (filter (λ (p : Property). not (is_past n p)) ps) ≡ filter (λ (p : Property). not (is_past n p)) (with_length l ps)
shortened-length n None ps = refl
shortened-length n (Some f) ps = rw (array_index-length) refl

-- a write keeps attributes, and a new property has none

pub written-defined : (k : List ℕ) (v : Value) (ps : List Property) → defined k v (attrs_found (find k ps)) ps ≡ written k v ps
written-defined k v [] = refl
written-defined k v (p ∷ ps) =
    let cases = elim (same_units k p.key) as (λ b. same_units k p.key ≡ b → cond b (property k v (attrs_found (cond b (Some p) (find k ps))) ∷ ps) (p ∷ defined k v (attrs_found (cond b (Some p) (find k ps))) ps) ≡ cond b (property p.key v p.attrs ∷ ps) (p ∷ written k v ps)) [
      | true ↦ λ is. ap (λ key. property key v p.attrs ∷ ps) (sym (key_is k p.key is))
      | false ↦ λ is. ap (λ qs. p ∷ qs) (written-defined k v ps)
    ] in cases refl

pub revalued-defined : (k : List ℕ) (v : Value) (ps : List Property) (q : Property) → find k ps ≡ Some q → defined k v q.attrs ps ≡ revalued k v ps
revalued-defined k v [] q is = cc
revalued-defined k v (p ∷ ps) q is =
    let cases = elim (same_units k p.key) as (λ b. same_units k p.key ≡ b → cond b (Some p) (find k ps) ≡ Some q → cond b (property k v q.attrs ∷ ps) (p ∷ defined k v q.attrs ps) ≡ cond b (property p.key v p.attrs ∷ ps) (p ∷ revalued k v ps)) [
      | true ↦ λ same found. let here : p ≡ q = cc in rw (← here) (ap (λ key. property key v p.attrs ∷ ps) (sym (key_is k p.key same)))
      | false ↦ λ same found. ap (λ qs. p ∷ qs) (revalued-defined k v ps q found)
    ] in cases refl is

pub revalued-none : (k : List ℕ) (v : Value) (ps : List Property) → find k ps ≡ None → ps ≡ revalued k v ps
revalued-none k v [] is = refl
revalued-none k v (p ∷ ps) is =
    let cases = elim (same_units k p.key) as (λ b. cond b (Some p) (find k ps) ≡ None → p ∷ ps ≡ cond b (property p.key v p.attrs ∷ ps) (p ∷ revalued k v ps)) [
      | true ↦ λ found. cc
      | false ↦ λ found. ap (λ qs. p ∷ qs) (revalued-none k v ps found)
    ] in cases is

-- what may not go stays

pub without-none : (k : List ℕ) (ps : List Property) → find k ps ≡ None → ps ≡ without k ps
without-none k [] is = refl
without-none k (p ∷ ps) is =
    let cases = elim (same_units k p.key) as (λ b. cond b (Some p) (find k ps) ≡ None → p ∷ ps ≡ cond b (cond p.attrs.dont_delete (p ∷ ps) ps) (p ∷ without k ps)) [
      | true ↦ λ found. cc
      | false ↦ λ found. ap (λ qs. p ∷ qs) (without-none k ps found)
    ] in cases is

pub without-kept : (k : List ℕ) (ps : List Property) (q : Property) → find k ps ≡ Some q → q.attrs.dont_delete ≡ true → ps ≡ without k ps
without-kept k [] q is stays = cc
without-kept k (p ∷ ps) q is stays =
    let cases = elim (same_units k p.key) as (λ b. cond b (Some p) (find k ps) ≡ Some q → p ∷ ps ≡ cond b (cond p.attrs.dont_delete (p ∷ ps) ps) (p ∷ without k ps)) [
      | true ↦ λ found. let here : p ≡ q = cc in let fixed : p.attrs.dont_delete ≡ true = rw here stays in rw fixed refl
      | false ↦ λ found. ap (λ qs. p ∷ qs) (without-kept k ps q found stays)
    ] in cases is

pub without-taken : (k : List ℕ) (ps : List Property) (q : Property) → find k ps ≡ Some q → q.attrs.dont_delete ≡ false → taken k ps ≡ without k ps
without-taken k [] q is goes = cc
without-taken k (p ∷ ps) q is goes =
    let cases = elim (same_units k p.key) as (λ b. cond b (Some p) (find k ps) ≡ Some q → cond b ps (p ∷ taken k ps) ≡ cond b (cond p.attrs.dont_delete (p ∷ ps) ps) (p ∷ without k ps)) [
      | true ↦ λ found. let here : p ≡ q = cc in let free : p.attrs.dont_delete ≡ false = rw here goes in rw free refl
      | false ↦ λ found. ap (λ qs. p ∷ qs) (without-taken k ps q found goes)
    ] in cases is

pub taken-none : (k : List ℕ) (ps : List Property) → find k ps ≡ None → taken k ps ≡ ps
taken-none k [] is = refl
taken-none k (p ∷ ps) is =
    let cases = elim (same_units k p.key) as (λ b. cond b (Some p) (find k ps) ≡ None → cond b ps (p ∷ taken k ps) ≡ p ∷ ps) [
      | true ↦ λ found. cc
      | false ↦ λ found. ap (λ qs. p ∷ qs) (taken-none k ps found)
    ] in cases is

-- the item of an index, and the attributes of what was found

pub find-item : (l : Option (Field Value Attrs)) (i : ℕ) (es : List (List ℕ × Field Value Attrs)) → i < 4294967295 → find (number_units i) (with_length l (listed es)) ≡ seen (number_units i) (lookup (same_units (number_units i)) es)
find-item l i es small = find-other l (number_units i) (listed es) (item-other l i small) ∙ find-listed (number_units i) es

pub attrs-seen : (k : List ℕ) (o : Option (Field Value Attrs)) → attrs_held o ≡ attrs_found (seen k o)
attrs-seen k None = refl
attrs-seen k (Some f) = refl

-- what is left of a key, by the attributes of what was found

pub without-fixed : (k : List ℕ) (ps : List Property) (o : Option (Field Value Attrs)) → find k ps ≡ seen k o → (attrs_held o).dont_delete ≡ true → (may_delete (find k ps) ≡ false) × (ps ≡ without k ps)
without-fixed k ps None is fixed = cc
without-fixed k ps (Some f) is fixed = (ap may_delete is ∙ ap not fixed, without-kept k ps (property k f.value f.attrs) is fixed)

pub without-free : (k : List ℕ) (ps : List Property) (o : Option (Field Value Attrs)) → find k ps ≡ seen k o → (attrs_held o).dont_delete ≡ false → (may_delete (find k ps) ≡ true) × (taken k ps ≡ without k ps)
without-free k ps None is free = (ap may_delete is, taken-none k ps is ∙ without-none k ps is)
without-free k ps (Some f) is free = (ap may_delete is ∙ ap not free, without-taken k ps (property k f.value f.attrs) is free)
