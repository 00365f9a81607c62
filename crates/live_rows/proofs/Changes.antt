-- What changes an object keeps objects closed; and properties with live values, where some are defined anew.
use Rattle.std.proofs.Common.{ℕ, Bool, true, false, List, [], ◌∷◌, All, length, cond}
use Rattle.std.proofs.lemmas.List.Elements.{All-cons, All-head, All-tail, All-filter}
use Rattle.std.specs.List.{filter}
use Rattle.caja_units.specs.Units.{same_units}
use Rattle.es3_objects.specs.declared.value.Value.{Value}
use Rattle.es3_objects.specs.declared.value.Value.TheVariants as v
use Rattle.es3_objects.specs.declared.value.Attrs.{Attrs}
use Rattle.es3_objects.specs.declared.value.Class.{Class}
use Rattle.es3_objects.specs.declared.value.Class.TheVariants as class
use Rattle.es3_heap.specs.Objects.{Property, Objects, hidden_attrs, object_at, props_of}
use Rattle.es3_heap.specs.Properties.{defined, without, with_props}
use Rattle.es3_live.specs.Live.{IsLive, AreClosed}
use Rattle.es3_live.proofs.Reading.{LiveProps, object_holds, props_live}
use Rattle.es3_live.proofs.Writing.{Grown, same_objects, grown_trans, with_props_grown, define_grown, delete_grown}
use Rattle.heap_rows.specs.Marks.{read_mark, set_mark, frozen_mark, set_marks, without_keys, without_set_marks, drop_marks, freeze}
use Rattle.heap_rows.specs.Doing.{on_object, of_record, of_array, of_either}

pub grown_if : (h : Objects) (b : Bool) (f g : Objects) → Grown h f → Grown h g → Grown h (cond b f g)
grown_if h true f g first second = first
grown_if h false f g first second = second

-- a change of an object, of a record, of an array

pub on_object_grown : (x : Value) (h : Objects) (change : ℕ → Objects) → AreClosed h → ((o : ℕ) → Grown h (change o)) → Grown h (on_object x h change)
on_object_grown (v.Obj o) h change closed grown = grown o
on_object_grown x h change closed grown = same_objects h closed

pub of_record_grown : (c : Class) (g h : Objects) → AreClosed h → Grown h g → Grown h (of_record c g h)
of_record_grown class.Object g h closed grown = grown
of_record_grown c g h closed grown = same_objects h closed

pub of_array_grown : (c : Class) (g h : Objects) → AreClosed h → Grown h g → Grown h (of_array c g h)
of_array_grown class.Array g h closed grown = grown
of_array_grown c g h closed grown = same_objects h closed

pub of_either_grown : (c : Class) (g h : Objects) → AreClosed h → Grown h g → Grown h (of_either c g h)
of_either_grown class.Object g h closed grown = grown
of_either_grown class.Array g h closed grown = grown
of_either_grown c g h closed grown = same_objects h closed

-- properties

abbrev pub LiveProp : ℕ → Property → Type 0
LiveProp n p = IsLive n p.value

pub props_of_live : (h : Objects) (o : ℕ) → AreClosed h → LiveProps (length h.list) (props_of (object_at h o))
props_of_live h o closed = props_live (length h.list) (object_at h o) (object_holds h o closed)

pub filter_live : (n : ℕ) (keep : Property → Bool) (ps : List Property) → LiveProps n ps → LiveProps n (filter keep ps)
filter_live n keep ps live = All-filter keep (LiveProp n) ps live

pub defined_live : (n : ℕ) (k : List ℕ) (x : Value) (a : Attrs) (ps : List Property) → IsLive n x → LiveProps n ps → LiveProps n (defined k x a ps)
defined_live n k x a [] value live = All-cons (LiveProp n) (record { key = k; value = x; attrs = a }) [] value live
defined_live n k x a (p ∷ ps) value live =
    let rest = All-tail (LiveProp n) p ps live in
    elim (same_units k p.key) as (λ b. LiveProps n (cond b (record { key = k; value = x; attrs = a } ∷ ps) (p ∷ defined k x a ps))) [
      | true ↦ All-cons (LiveProp n) (record { key = k; value = x; attrs = a }) ps value rest
      | false ↦ All-cons (LiveProp n) p (defined k x a ps) (All-head (LiveProp n) p ps live) (defined_live n k x a ps value rest)
    ]

-- what holds of all properties holds of those that a deletion leaves
without_all : (P : Property → Type 0) (k : List ℕ) (ps : List Property) → All P ps → All P (without k ps)
without_all P k [] all = all
without_all P k (p ∷ ps) all =
    let rest = All-tail P p ps all in
    elim (same_units k p.key) as (λ b. All P (cond b (cond p.attrs.dont_delete (p ∷ ps) ps) (p ∷ without k ps))) [
      | true ↦ elim p.attrs.dont_delete as (λ b. All P (cond b (p ∷ ps) ps)) [
        | true ↦ all
        | false ↦ rest
      ]
      | false ↦ All-cons P p (without k ps) (All-head P p ps all) (without_all P k ps rest)
    ]

without_keys_all : (P : Property → Type 0) (ks : List (List ℕ)) (ps : List Property) → All P ps → All P (without_keys ks ps)
without_keys_all P [] ps all = all
without_keys_all P (k ∷ ks) ps all = without_keys_all P ks (without k ps) (without_all P k ps all)

-- marks

pub freeze_grown : (h : Objects) (o : ℕ) → AreClosed h → Grown h (freeze h o)
freeze_grown h o closed =
    let ps = without_set_marks (props_of (object_at h o)) in
    let first = with_props_grown h o ps closed (without_keys_all (LiveProp (length h.list)) (set_marks (props_of (object_at h o))) (props_of (object_at h o)) (props_of_live h o closed)) in
    grown_trans first (define_grown (with_props h o (object_at h o) ps) o frozen_mark (v.Bool true) hidden_attrs first.closed tt)

pub drop_marks_grown : (h : Objects) (o : ℕ) (k : List ℕ) → AreClosed h → Grown h (drop_marks h o k)
drop_marks_grown h o k closed =
    let first = delete_grown h o (read_mark k) closed in
    grown_trans first (delete_grown _ o (set_mark k) first.closed)
