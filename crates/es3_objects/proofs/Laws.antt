-- What a write leaves at a key of an object and at the others.
use Rattle.std.proofs.Common.{◌≡◌, ℕ, ◌+◌, true, false, List, [], ◌∷◌, Option, Some, None, cond, refl, sym, ap, ◌∙◌}
use Rattle.std.specs.Prelude.{nat_lt, pos}
use Rattle.std.specs.Cmp.Lexicographic.{same_text}
use Rattle.std.proofs.lemmas.Option.{none-some}
use Rattle.std.specs.Fmt.{digits}
use Rattle.caja_units.specs.Units.{same_units}
use Rattle.caja_units.specs.Index.{array_index}
use Rattle.es3_objects.specs.declared.value.Value.{Value}
use Rattle.es3_objects.specs.declared.value.Value.TheVariants.{Num}
use Rattle.es3_objects.specs.declared.value.Attrs.{Attrs}
use Rattle.es3_objects.specs.declared.value.Class.{Class}
use Rattle.es3_objects.specs.declared.value.Class.TheVariants as class
use Rattle.es3_objects.specs.Objects.{Property, plain_attrs}
use Rattle.es3_objects.specs.Properties.{find, value_of, length_key, length_of, at_least, lengthened, written, revalued, defined}
use Rattle.es3_objects.specs.Reading.{property}
use Rattle.es3_objects.proofs.Keys.{has_key, same_key, same_key-refl}

-- the attributes that a write keeps
abbrev pub attrs_of : Option Property → Attrs
attrs_of None = plain_attrs
attrs_of (Some p) = p.attrs

-- a key that was written has that value, and the attributes that it had
pub find-written : (k : List ℕ) (v : Value) (ps : List Property) → find k (written k v ps) ≡ Some (property k v (attrs_of (find k ps)))
find-written k v [] = rw (same_key-refl k) refl
find-written k v (p ∷ ps) =
    let cases = elim (has_key k p) as (λ b. has_key k p ≡ b → find k (cond b (property p.key v p.attrs ∷ ps) (p ∷ written k v ps)) ≡ Some (property k v (attrs_of (cond b (Some p) (find k ps))))) [
      | true ↦ λ is. rw is (ap (λ key. let found : Property = property key v p.attrs in Some found) (same_key k p is))
      | false ↦ λ is. rw is (find-written k v ps)
    ] in cases refl

-- another key has what it had
pub find-written-other : (j k : List ℕ) (v : Value) (ps : List Property) → same_units j k ≡ false → find j (written k v ps) ≡ find j ps
find-written-other j k v [] ne = rw ne refl
find-written-other j k v (p ∷ ps) ne =
    let cases = elim (has_key k p) as (λ b. has_key k p ≡ b → find j (cond b (property p.key v p.attrs ∷ ps) (p ∷ written k v ps)) ≡ find j (p ∷ ps)) [
      | true ↦ λ is. let other : same_units j p.key ≡ false = ap (same_units j) (same_key k p is) ∙ ne in rw other refl
      | false ↦ λ is. ap (λ rest. cond (same_units j p.key) (Some p) rest) (find-written-other j k v ps ne)
    ] in cases refl

-- a key that was defined has that value and those attributes, and another key what it had
pub find-defined : (k : List ℕ) (v : Value) (a : Attrs) (ps : List Property) → find k (defined k v a ps) ≡ Some (property k v a)
find-defined k v a [] = rw (same_key-refl k) refl
find-defined k v a (p ∷ ps) =
    let cases = elim (has_key k p) as (λ b. has_key k p ≡ b → find k (cond b (property k v a ∷ ps) (p ∷ defined k v a ps)) ≡ Some (property k v a)) [
      | true ↦ λ is. rw (same_key-refl k) refl
      | false ↦ λ is. rw is (find-defined k v a ps)
    ] in cases refl

pub find-defined-other : (j k : List ℕ) (v : Value) (a : Attrs) (ps : List Property) → same_units j k ≡ false → find j (defined k v a ps) ≡ find j ps
find-defined-other j k v a [] ne = rw ne refl
find-defined-other j k v a (p ∷ ps) ne =
    let cases = elim (has_key k p) as (λ b. has_key k p ≡ b → find j (cond b (property k v a ∷ ps) (p ∷ defined k v a ps)) ≡ find j (p ∷ ps)) [
      | true ↦ λ is. let other : same_units j p.key ≡ false = ap (same_units j) (same_key k p is) ∙ ne in rw (other, ne) refl
      | false ↦ λ is. ap (λ rest. cond (same_units j p.key) (Some p) rest) (find-defined-other j k v a ps ne)
    ] in cases refl

pub array_index-length : array_index length_key ≡ None
unfolding array_index digits
array_index-length = refl

-- the name `length` is no index, so that a longer array has the other properties that it had
pub no_index : (k : List ℕ) (i : ℕ) → array_index k ≡ Some i → same_units k length_key ≡ false
no_index k i h =
    elim (same_units k length_key) as (λ b. same_units k length_key ≡ b → b ≡ false) [
      | true ↦ λ is. absurd (none-some i (sym array_index-length ∙ ap array_index (sym (same_text k length_key (sym is))) ∙ h))
      | false ↦ λ is. refl
    ] refl

find-revalued-other : (j k : List ℕ) (v : Value) (ps : List Property) → same_units j k ≡ false → find j (revalued k v ps) ≡ find j ps
find-revalued-other j k v [] ne = refl
find-revalued-other j k v (p ∷ ps) ne =
    let cases = elim (has_key k p) as (λ b. has_key k p ≡ b → find j (cond b (property p.key v p.attrs ∷ ps) (p ∷ revalued k v ps)) ≡ find j (p ∷ ps)) [
      | true ↦ λ is. let other : same_units j p.key ≡ false = ap (same_units j) (same_key k p is) ∙ ne in rw other refl
      | false ↦ λ is. ap (λ rest. cond (same_units j p.key) (Some p) rest) (find-revalued-other j k v ps ne)
    ] in cases refl

find-at_least : (k : List ℕ) (i : Option ℕ) (ps : List Property) → array_index k ≡ i → find k (at_least i ps) ≡ find k ps
find-at_least k None ps is = refl
find-at_least k (Some i) ps is =
    elim (nat_lt i (length_of (value_of (find length_key ps)))) as (λ b. find k (cond b ps (revalued length_key (Num (pos (i + 1))) ps)) ≡ find k ps) [
      | true ↦ refl
      | false ↦ find-revalued-other k length_key _ ps (no_index k i is)
    ]

pub find-lengthened : (c : Class) (k : List ℕ) (ps : List Property) → find k (lengthened c k ps) ≡ find k ps
find-lengthened class.Object k ps = refl
find-lengthened class.Array k ps = find-at_least k (array_index k) ps refl
find-lengthened class.Function k ps = refl
find-lengthened class.Error k ps = refl
find-lengthened class.Node k ps = refl
