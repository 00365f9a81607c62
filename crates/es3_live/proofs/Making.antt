-- New objects that name live ones alone keep objects closed.
use Rattle.std.proofs.Common.{ℕ, ◌+◌, ◌<◌, ◌≤◌, List, [], ◌∷◌, ◌++◌, Option, Some, All, length, ap, arith, length-append}
use Rattle.std.specs.Prelude.{codes}
use Rattle.std.proofs.lemmas.List.Elements.{All-nil, All-cons, All-head, All-tail, All-push, All-weaker}
use Rattle.caja_units.specs.Index.{number_units}
use Rattle.es3_objects.specs.declared.value.Value.{Value}
use Rattle.es3_objects.specs.declared.value.Value.TheVariants.{Text}
use Rattle.es3_objects.specs.declared.value.Class.{Class}
use Rattle.es3_objects.specs.declared.value.Class.TheVariants as class
use Rattle.es3_objects.specs.declared.value.FuncKind.{FuncKind}
use Rattle.es3_objects.specs.declared.value.Proto.{Proto}
use Rattle.es3_objects.specs.declared.value.Proto.TheVariants as proto
use Rattle.es3_heap.specs.Objects.{Property, Object, Objects, plain_attrs, fixed_attrs, class_of, callable_of, with_object}
use Rattle.es3_heap.specs.Making.{proto_id, length_property, first_properties, plain_object, made, bare, made_function, item_properties, array_object, error_object}
use Rattle.es3_heap.proofs.Laws.{object_at-with_object-other}
use Rattle.es3_live.specs.Live.{IsLive, IsLiveId, HoldsLive, AreClosed}
use Rattle.es3_live.proofs.Growth.{holds_more}
use Rattle.es3_live.proofs.Reading.{LiveProps}
use Rattle.es3_live.proofs.Writing.{Grown}

abbrev LiveProp : ℕ → Property → Type 0
LiveProp n p = IsLive n p.value

-- a new object, the last
pub with_object_grown : (h : Objects) (x : Object) → AreClosed h → HoldsLive (length h.list) x → Grown h (with_object h x)
with_object_grown h x closed holds =
    let more : length h.list ≤ length (h.list ++ x ∷ []) = omega (arith, length-append h.list (x ∷ [])) in
    let n = length (h.list ++ x ∷ []) in
    let old : All (HoldsLive n) h.list = All-weaker (HoldsLive (length h.list)) (HoldsLive n) (λ o. holds_more o more) h.list closed.objects in
    record {
      later = record {
        more = more;
        classes = λ o within. ap class_of (object_at-with_object-other h o x within);
        functions = λ o within. ap callable_of (object_at-with_object-other h o x within);
      };
      closed = record {
        prototypes = let ten = closed.prototypes in omega arith;
        objects = All-push (HoldsLive n) h.list x old (holds_more x more holds);
      };
    }

-- the number of a new object is live
pub new_within : (h : Objects) (x : Object) → length h.list < length (with_object h x).list
new_within h x = omega (arith, length-append h.list (x ∷ []))

first_properties_live : (n : ℕ) (c : Class) → LiveProps n (first_properties c)
first_properties_live n class.Array = All-cons (LiveProp n) (length_property 0) [] tt (All-nil (LiveProp n))
first_properties_live n c = All-nil (LiveProp n)

pub made_grown : (h : Objects) (c : Class) (p : Option ℕ) → AreClosed h → IsLiveId (length h.list) p → Grown h (made c p h)
made_grown h c p closed live = with_object_grown h (plain_object c p) closed (record { proto = live; values = first_properties_live (length h.list) c })

-- 13.2
pub made_function_grown : (h : Objects) (k : FuncKind) (m : ℕ) → AreClosed h → Grown h (made_function k m h)
made_function_grown h k m closed =
    let ten = closed.prototypes in
    with_object_grown h (bare class.Function (Some (proto_id proto.Function)) (Some (record { kind = k; maker = m }))) closed (record { proto = omega arith; values = All-nil (LiveProp (length h.list)) })

item_properties_live : (n i : ℕ) (vs : List Value) → All (IsLive n) vs → LiveProps n (item_properties i vs)
item_properties_live n i [] live = All-nil (LiveProp n)
item_properties_live n i (v ∷ vs) live =
    All-cons (LiveProp n) (record { key = number_units i; value = v; attrs = plain_attrs }) (item_properties (i + 1) vs) (All-head (IsLive n) v vs live) (item_properties_live n (i + 1) vs (All-tail (IsLive n) v vs live))

-- 11.1.4: an array of live values
pub array_grown : (h : Objects) (vs : List Value) → AreClosed h → All (IsLive (length h.list)) vs → Grown h (with_object h (array_object vs))
array_grown h vs closed live =
    let n = length h.list in
    let ten = closed.prototypes in
    with_object_grown h (array_object vs) closed (record { proto = omega arith; values = All-cons (LiveProp n) (length_property (length vs)) (item_properties 0 vs) tt (item_properties_live n 0 vs live) })

pub proto_there : (h : Objects) (p : Proto) → AreClosed h → proto_id p < length h.list
proto_there h p closed =
    let ten = closed.prototypes in
    elim p as (λ q. proto_id q < length h.list) [
      | proto.Object ↦ omega arith
      | proto.Function ↦ omega arith
      | proto.Array ↦ omega arith
      | proto.String ↦ omega arith
      | proto.Number ↦ omega arith
      | proto.Boolean ↦ omega arith
      | proto.Error ↦ omega arith
      | proto.TypeError ↦ omega arith
      | proto.RangeError ↦ omega arith
      | proto.Node ↦ omega arith
    ]

-- 15.11
pub error_grown : (h : Objects) (p : Proto) (name message : List ℕ) → AreClosed h → Grown h (with_object h (error_object p name message))
error_grown h p name message closed =
    let n = length h.list in
    let first : Property = record { key = codes "name"; value = Text name; attrs = fixed_attrs } in
    let second : Property = record { key = codes "message"; value = Text message; attrs = fixed_attrs } in
    with_object_grown h (error_object p name message) closed
    (record { proto = proto_there h p closed; values = All-cons (LiveProp n) first (second ∷ []) tt (All-cons (LiveProp n) second [] tt (All-nil (LiveProp n))) })
