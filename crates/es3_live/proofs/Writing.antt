-- Writes keep objects closed, and take no object away.
use Rattle.std.proofs.Common.{◌≡◌, ℕ, zero, suc, ◌+◌, true, false, List, [], ◌∷◌, Option, Some, None, All, length, set, cond, refl, sym, ap, ◌∙◌, subst, arith}
use Rattle.std.specs.Prelude.{slice_get, slice_set, nat_lt, pos}
use Rattle.std.proofs.Math.ListN.{length-set}
use Rattle.std.proofs.lemmas.List.Elements.{All-cons, All-head, All-tail, All-set}
use Rattle.caja_units.specs.Units.{same_units}
use Rattle.caja_units.specs.Index.{array_index}
use Rattle.es3_objects.specs.declared.value.Value.{Value}
use Rattle.es3_objects.specs.declared.value.Value.TheVariants.{Num}
use Rattle.es3_objects.specs.declared.value.Attrs.{Attrs}
use Rattle.es3_objects.specs.declared.value.Class.{Class}
use Rattle.es3_objects.specs.declared.value.Class.TheVariants as class
use Rattle.es3_objects.specs.declared.value.Tag.{Tag}
use Rattle.es3_objects.specs.declared.value.Tag.TheVariants as tag
use Rattle.es3_heap.specs.Objects.{Property, Object, Objects, plain_attrs, object_at, props_of, class_of, callable_of, replaced}
use Rattle.es3_heap.specs.Properties.{find, value_of, length_key, length_of, at_least, lengthened, written, revalued, defined, without, with_props, can_put, put, define, delete}
use Rattle.es3_heap.specs.Making.{count_at, raised, with_tag, awaits_name, tagged, named}
use Rattle.es3_live.specs.Live.{IsLive, HoldsLive, AreClosed, Later}
use Rattle.es3_live.proofs.Growth.{later_refl, later_trans}
use Rattle.es3_live.proofs.Reading.{LiveProps, HoldsIfThere, object_holds, props_live}

-- objects that are closed and later than others
pub record Grown (h g : Objects) : Type 0 where
  pub later : Later h g
  pub closed : AreClosed g

pub same_objects : (h : Objects) → AreClosed h → Grown h h
same_objects h closed = record { later = later_refl h; closed = closed }

pub grown_trans : {f g h : Objects} → Grown f g → Grown g h → Grown f h
grown_trans a b = record { later = later_trans a.later b.later; closed = b.closed }

-- counts of names say nothing of objects
pub recounted : (h g : Objects) (counts : List ℕ) → Grown h g → Grown h (record { list = g.list; counts = counts })
recounted h g counts grown = record {
  later = record { more = grown.later.more; classes = grown.later.classes; functions = grown.later.functions };
  closed = record { prototypes = grown.closed.prototypes; objects = grown.closed.objects };
}

-- another object in the place of one

same_part : {X Y : Type 0} (f : Option X → Y) (xs : List X) (i n : ℕ) (x y : X) → slice_get xs i ≡ Some x → f (Some y) ≡ f (Some x) → f (slice_get (set xs i y) n) ≡ f (slice_get xs n)
same_part f [] i n x y here same = refl
same_part f (z ∷ zs) zero zero x y here same = same ∙ ap f (sym here)
same_part f (z ∷ zs) zero (suc n) x y here same = refl
same_part f (z ∷ zs) (suc i) zero x y here same = refl
same_part f (z ∷ zs) (suc i) (suc n) x y here same = same_part f zs i n x y here same

pub replaced_grown : (h : Objects) (o : ℕ) (x y : Object) → AreClosed h → object_at h o ≡ Some x → y.class ≡ x.class → y.callable ≡ x.callable → HoldsLive (length h.list) y → Grown h (replaced h o y)
replaced_grown h o x y closed here class callable holds =
    let many : length (set h.list o y) ≡ length h.list = length-set h.list o y in
    record {
      later = record {
        more = omega arith;
        classes = λ n within. same_part class_of h.list o n x y here class;
        functions = λ n within. same_part callable_of h.list o n x y here callable;
      };
      closed = record {
        prototypes = rw many closed.prototypes;
        objects = subst (λ n. All (HoldsLive n) (set h.list o y)) (sym many) (All-set (HoldsLive (length h.list)) h.list o y holds closed.objects);
      };
    }

-- other properties of an object

with_props_at : (h : Objects) (o : ℕ) (x : Option Object) (ps : List Property) → AreClosed h → object_at h o ≡ x → HoldsIfThere (length h.list) x → LiveProps (length h.list) ps → Grown h (with_props h o x ps)
with_props_at h o None ps closed here holds live = same_objects h closed
with_props_at h o (Some x) ps closed here holds live =
    replaced_grown h o x (record { class = x.class; proto = x.proto; callable = x.callable; tag = x.tag; props = ps }) closed here refl refl (record { proto = holds.proto; values = live })

pub with_props_grown : (h : Objects) (o : ℕ) (ps : List Property) → AreClosed h → LiveProps (length h.list) ps → Grown h (with_props h o (object_at h o) ps)
with_props_grown h o ps closed live = with_props_at h o (object_at h o) ps closed refl (object_holds h o closed) live

abbrev LiveProp : ℕ → Property → Type 0
LiveProp n p = IsLive n p.value

written_live : (n : ℕ) (k : List ℕ) (v : Value) (ps : List Property) → IsLive n v → LiveProps n ps → LiveProps n (written k v ps)
written_live n k v [] value live = All-cons (LiveProp n) (record { key = k; value = v; attrs = plain_attrs }) [] value live
written_live n k v (p ∷ ps) value live =
    let rest = All-tail (LiveProp n) p ps live in
    elim (same_units k p.key) as (λ b. LiveProps n (cond b (record { key = p.key; value = v; attrs = p.attrs } ∷ ps) (p ∷ written k v ps))) [
      | true ↦ All-cons (LiveProp n) (record { key = p.key; value = v; attrs = p.attrs }) ps value rest
      | false ↦ All-cons (LiveProp n) p (written k v ps) (All-head (LiveProp n) p ps live) (written_live n k v ps value rest)
    ]

defined_live : (n : ℕ) (k : List ℕ) (v : Value) (a : Attrs) (ps : List Property) → IsLive n v → LiveProps n ps → LiveProps n (defined k v a ps)
defined_live n k v a [] value live = All-cons (LiveProp n) (record { key = k; value = v; attrs = a }) [] value live
defined_live n k v a (p ∷ ps) value live =
    let rest = All-tail (LiveProp n) p ps live in
    elim (same_units k p.key) as (λ b. LiveProps n (cond b (record { key = k; value = v; attrs = a } ∷ ps) (p ∷ defined k v a ps))) [
      | true ↦ All-cons (LiveProp n) (record { key = k; value = v; attrs = a }) ps value rest
      | false ↦ All-cons (LiveProp n) p (defined k v a ps) (All-head (LiveProp n) p ps live) (defined_live n k v a ps value rest)
    ]

revalued_live : (n : ℕ) (k : List ℕ) (v : Value) (ps : List Property) → IsLive n v → LiveProps n ps → LiveProps n (revalued k v ps)
revalued_live n k v [] value live = live
revalued_live n k v (p ∷ ps) value live =
    let rest = All-tail (LiveProp n) p ps live in
    elim (same_units k p.key) as (λ b. LiveProps n (cond b (record { key = p.key; value = v; attrs = p.attrs } ∷ ps) (p ∷ revalued k v ps))) [
      | true ↦ All-cons (LiveProp n) (record { key = p.key; value = v; attrs = p.attrs }) ps value rest
      | false ↦ All-cons (LiveProp n) p (revalued k v ps) (All-head (LiveProp n) p ps live) (revalued_live n k v ps value rest)
    ]

without_live : (n : ℕ) (k : List ℕ) (ps : List Property) → LiveProps n ps → LiveProps n (without k ps)
without_live n k [] live = live
without_live n k (p ∷ ps) live =
    let rest = All-tail (LiveProp n) p ps live in
    elim (same_units k p.key) as (λ b. LiveProps n (cond b (cond p.attrs.dont_delete (p ∷ ps) ps) (p ∷ without k ps))) [
      | true ↦ elim p.attrs.dont_delete as (λ b. LiveProps n (cond b (p ∷ ps) ps)) [
        | true ↦ live
        | false ↦ rest
      ]
      | false ↦ All-cons (LiveProp n) p (without k ps) (All-head (LiveProp n) p ps live) (without_live n k ps rest)
    ]

at_least_live : (n : ℕ) (i : Option ℕ) (ps : List Property) → LiveProps n ps → LiveProps n (at_least i ps)
at_least_live n None ps live = live
at_least_live n (Some i) ps live =
    elim (nat_lt i (length_of (value_of (find length_key ps)))) as (λ b. LiveProps n (cond b ps (revalued length_key (Num (pos (i + 1))) ps))) [
      | true ↦ live
      | false ↦ revalued_live n length_key (Num (pos (i + 1))) ps tt live
    ]

lengthened_live : (n : ℕ) (c : Class) (k : List ℕ) (ps : List Property) → LiveProps n ps → LiveProps n (lengthened c k ps)
lengthened_live n class.Array k ps live = at_least_live n (array_index k) ps live
lengthened_live n c k ps live = live

-- 8.6.2.2: a live value is written
pub put_grown : (h : Objects) (o : ℕ) (k : List ℕ) (v : Value) → AreClosed h → IsLive (length h.list) v → Grown h (put h o k v)
put_grown h o k v closed value =
    let n = length h.list in
    let x = object_at h o in
    let ps = lengthened (class_of x) k (written k v (props_of x)) in
    let live = lengthened_live n (class_of x) k (written k v (props_of x)) (written_live n k v (props_of x) value (props_live n x (object_holds h o closed))) in
    elim (can_put h o k) as (λ b. Grown h (cond b (with_props h o (object_at h o) (lengthened (class_of (object_at h o)) k (written k v (props_of (object_at h o))))) h)) [
      | true ↦ with_props_grown h o ps closed live
      | false ↦ same_objects h closed
    ]

pub define_grown : (h : Objects) (o : ℕ) (k : List ℕ) (v : Value) (a : Attrs) → AreClosed h → IsLive (length h.list) v → Grown h (define h o k v a)
define_grown h o k v a closed value =
    with_props_grown h o (defined k v a (props_of (object_at h o))) closed (defined_live (length h.list) k v a (props_of (object_at h o)) value (props_live (length h.list) (object_at h o) (object_holds h o closed)))

-- 8.6.2.5
pub delete_grown : (h : Objects) (o : ℕ) (k : List ℕ) → AreClosed h → Grown h (delete h o k)
delete_grown h o k closed =
    with_props_grown h o (without k (props_of (object_at h o))) closed (without_live (length h.list) k (props_of (object_at h o)) (props_live (length h.list) (object_at h o) (object_holds h o closed)))

-- names

with_tag_at : (h : Objects) (o : ℕ) (x : Option Object) (t : Tag) → AreClosed h → object_at h o ≡ x → HoldsIfThere (length h.list) x → Grown h (with_tag h o x t)
with_tag_at h o None t closed here holds = same_objects h closed
with_tag_at h o (Some x) t closed here holds =
    replaced_grown h o x (record { class = x.class; proto = x.proto; callable = x.callable; tag = t; props = x.props }) closed here refl refl (record { proto = holds.proto; values = holds.values })

with_tag_grown : (h : Objects) (o : ℕ) (t : Tag) → AreClosed h → Grown h (with_tag h o (object_at h o) t)
with_tag_grown h o t closed = with_tag_at h o (object_at h o) t closed refl (object_holds h o closed)

pub tagged_grown : (h : Objects) (o : ℕ) (t : Tag) → AreClosed h → Grown h (tagged h o t)
tagged_grown h o t closed =
    elim (awaits_name (object_at h o)) as (λ b. Grown h (cond b (with_tag h o (object_at h o) t) h)) [
      | true ↦ with_tag_grown h o t closed
      | false ↦ same_objects h closed
    ]

pub named_grown : (h : Objects) (o m : ℕ) → AreClosed h → Grown h (named h o m)
named_grown h o m closed =
    let t = tag.Made m (count_at (slice_get h.counts m)) in
    let counts = slice_set h.counts m (raised (count_at (slice_get h.counts m))) in
    elim (awaits_name (object_at h o)) as (λ b. Grown h (cond b (record { list = (with_tag h o (object_at h o) (tag.Made m (count_at (slice_get h.counts m)))).list; counts = slice_set h.counts m (raised (count_at (slice_get h.counts m))) }) h)) [
      | true ↦ recounted h (with_tag h o (object_at h o) t) counts (with_tag_grown h o t closed)
      | false ↦ same_objects h closed
    ]
