-- A new object, the last of all, with its properties.
use Rattle.std.proofs.Common.{◌≡◌, ℕ, Bool, true, false, List, [], ◌∷◌, ◌++◌, length, Some, cond, refl, sym, ap, ◌∙◌, append_assoc, append-nil}
use Rattle.std.specs.Prelude.{slice_get, slice_set, ◌||◌}
use Rattle.caja_units.specs.Units.{same_units}
use Rattle.es3_objects.specs.declared.value.Value.{Value}
use Rattle.es3_objects.specs.declared.value.Value.TheVariants as v
use Rattle.es3_objects.specs.declared.value.Attrs.{Attrs}
use Rattle.es3_objects.specs.declared.value.Class.TheVariants as class
use Rattle.es3_objects.specs.declared.value.Proto.TheVariants as proto
use Rattle.es3_heap.specs.Objects.{Property, Object, Objects, plain_attrs, props_of, with_object}
use Rattle.es3_heap.specs.Properties.{defined, define, with_props}
use Rattle.es3_heap.specs.Making.{proto_id, made, named}
use Rattle.heap_rows.specs.Marks.{frozen_mark, marked}
use Rattle.heap_rows.specs.Doing.{frozen_if, copied, record_object}
use Rattle.freeze_marks.specs.Records.{with_pairs, has_key, AreNew}

get_last : (l : List Object) (x : Object) → slice_get (l ++ x ∷ []) (length l) ≡ Some x
get_last [] x = refl
get_last (y ∷ l) x = get_last l x

set_last : (l : List Object) (x y : Object) → slice_set (l ++ x ∷ []) (length l) y ≡ l ++ y ∷ []
set_last [] x y = refl
set_last (z ∷ l) x y = ap (λ q. z ∷ q) (set_last l x y)

abbrev stored : List ℕ → List Object → Objects
stored counts l = record { list = l; counts = counts }

abbrev pub with_these : Object → List Property → Object
with_these x ps = record { class = x.class; proto = x.proto; callable = x.callable; tag = x.tag; props = ps }

-- a property of a new object
pub define-new : (h : Objects) (x : Object) (k : List ℕ) (z : Value) (a : Attrs) → define (with_object h x) (length h.list) k z a ≡ with_object h (with_these x (defined k z a x.props))
define-new h x k z a =
    ap (λ q. with_props (with_object h x) (length h.list) q (defined k z a (props_of q))) (get_last h.list x)
    ∙ ap (stored h.counts) (set_last h.list x (with_these x (defined k z a x.props)))

-- a new object is frozen
pub closed-new : (h : Objects) (x : Object) → marked (with_object h x) (length h.list) frozen_mark ≡ with_object h (frozen_if true x)
closed-new h x = define-new h x frozen_mark (v.Bool true) _

-- a new key goes last
defined-last : (k : List ℕ) (x : Value) (before : List (List ℕ × Value)) → has_key k before ≡ false → defined k x plain_attrs (copied before) ≡ copied (before ++ (k, x) ∷ [])
defined-last k x [] new = refl
defined-last k x ((j, y) ∷ before) new =
    let q : Property = record { key = j; value = y; attrs = plain_attrs } in
    let rest = copied before in
    let cases = elim (same_units k j) as (λ b. (b || has_key k before) ≡ false → cond b (record { key = k; value = x; attrs = plain_attrs } ∷ rest) (q ∷ defined k x plain_attrs rest) ≡ q ∷ copied (before ++ (k, x) ∷ [])) [
      | true ↦ λ none. absurd (cc none)
      | false ↦ λ none. ap (λ l. q ∷ l) (defined-last k x before none)
    ] in cases new

pairs_behind : (before ps : List (List ℕ × Value)) (h : Objects) → AreNew before ps → with_pairs ps (length h.list) (with_object h (record_object (copied before))) ≡ with_object h (record_object (copied (before ++ ps)))
pairs_behind before [] h are = ap (λ l. with_object h (record_object (copied l))) (sym (append-nil before))
pairs_behind before ((k, x) ∷ ps) h are =
    ap (with_pairs ps (length h.list)) (define-new h (record_object (copied before)) k x plain_attrs ∙ ap (λ l. with_object h (record_object l)) (defined-last k x before are.0))
    ∙ pairs_behind (before ++ (k, x) ∷ []) ps h are.1
    ∙ ap (λ l. with_object h (record_object (copied l))) (append_assoc before ((k, x) ∷ []) ps)

-- a new record of keys that are all different
pub new_record-is : (ps : List (List ℕ × Value)) (h : Objects) → AreNew [] ps → with_pairs ps (length h.list) (made class.Object (Some (proto_id proto.Object)) h) ≡ with_object h (record_object (copied ps))
new_record-is ps h are = pairs_behind [] ps h are

-- a new object with its name
pub named-new : (closed : Bool) (g h f : Objects) (x : Object) (o by : ℕ) → h ≡ with_object g x → o ≡ length g.list → f ≡ cond closed (marked h o frozen_mark) h → named (with_object g (frozen_if closed x)) (length g.list) by ≡ named f o by
named-new true g h f x o by is last closed = rw (closed, is, last) (ap (λ q. named q (length g.list) by) (sym (closed-new g x)))
named-new false g h f x o by is last closed = rw (closed, is, last) refl
