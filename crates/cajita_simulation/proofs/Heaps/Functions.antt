-- A function that a text makes: two new objects, the function and its prototype (13.2).
use Rattle.std.proofs.Common.{◌≡◌, ℕ, suc, ◌<◌, true, List, [], ◌∷◌, ◌++◌, Some, None, length, ap, ◌∙◌, arith}
use Rattle.std.specs.Prelude.{codes, pos, slice_get, slice_set}
use Rattle.std.proofs.Math.Seq.{set-append_seam}
use Rattle.std.proofs.lemmas.List.{set-append_left}
use Rattle.es3_objects.specs.declared.value.Value.{Value}
use Rattle.es3_objects.specs.declared.value.Value.TheVariants.{Num, Obj, Bool}
use Rattle.es3_objects.specs.declared.value.Attrs.{Attrs}
use Rattle.es3_objects.specs.declared.value.Class.TheVariants as class
use Rattle.es3_objects.specs.declared.value.FuncKind.TheVariants.{Code}
use Rattle.es3_objects.specs.declared.value.Proto.TheVariants as proto
use Rattle.es3_objects.specs.declared.value.Tag.TheVariants as tag
use Rattle.es3_heap.specs.Objects.{Property, Object, Objects, fixed_attrs, hidden_attrs, kept_attrs, object_at, with_object, replaced}
use Rattle.es3_heap.specs.Properties.{defined, define, length_key}
use Rattle.es3_objects.specs.Reading.{property}
use Rattle.es3_heap.specs.Making.{bare, proto_id, count_at, raised, is_untagged, named}
use Rattle.es3_language.specs.Store.{new_function}
use Rattle.heap_rows.specs.Marks.{marked, simple_mark, frozen_mark}
use Rattle.cajita_simulation.proofs.Heaps.Made.{with_properties, defined_new, replaced_new, tagged, next_name, with_named}
use Rattle.cajita_simulation.proofs.Heaps.Grown.{length-grown, grown_last, grown_kept}
use Rattle.cajita_simulation.proofs.Heaps.Opened.{IsOpened, opened_kept}

-- the function, with its length and the prototype that its objects have
abbrev pub function_object : ℕ → ℕ → ℕ → ℕ → Object
function_object code params maker prototype = record {
  class = class.Function;
  proto = Some (proto_id proto.Function);
  callable = Some (record { kind = Code code; maker = maker });
  tag = tag.None;
  props = property length_key (Num (pos params)) fixed_attrs ∷ property (codes "prototype") (Obj prototype) kept_attrs ∷ [];
}

abbrev pub prototype_object : ℕ → Object
prototype_object function = record {
  class = class.Object;
  proto = Some (proto_id proto.Object);
  callable = None;
  tag = tag.None;
  props = property (codes "constructor") (Obj function) hidden_attrs ∷ [];
}

-- a definition of the last object but one
defined_before : (h : Objects) (o x : Object) (k : List ℕ) (v : Value) (a : Attrs) → define (with_object (with_object h o) x) (length h.list) k v a ≡ with_object (with_object h (with_properties o (defined k v a o.props))) x
defined_before h o x k v a =
    let one : length (with_object h o).list ≡ suc (length h.list) = length-grown h o h.counts in
    let less : length h.list < length (with_object h o).list = omega (arith, one) in
    let p = with_properties o (defined k v a o.props) in
    let there : object_at (with_object (with_object h o) x) (length h.list) ≡ Some o = grown_kept (with_object h o) x h.counts (length h.list) o (grown_last h o h.counts) in
    let before : replaced (with_object (with_object h o) x) (length h.list) p ≡ with_object (replaced (with_object h o) (length h.list) p) x =
    ap (λ list. let g : Objects = record { list = list; counts = h.counts } in g) (set-append_left (with_object h o).list (x ∷ []) (length h.list) p less) in
    rw there (before ∙ ap (λ (g : Objects). with_object g x) (replaced_new h o p))

pub function_new : (code params maker : ℕ) (h : Objects) → new_function code params maker h ≡ with_object (with_object h (function_object code params maker (suc (length h.list)))) (prototype_object (length h.list))
function_new code params maker h =
    let f = bare class.Function (Some (proto_id proto.Function)) (Some (record { kind = Code code; maker = maker })) in
    let counted = with_properties f (property length_key (Num (pos params)) fixed_attrs ∷ []) in
    let g = with_object h counted in
    let p = bare class.Object (Some (proto_id proto.Object)) None in
    rw (defined_new h f length_key (Num (pos params)) fixed_attrs, defined_new g p (codes "constructor") (Obj (length h.list)) hidden_attrs, length-grown h counted h.counts)
    (defined_before h counted (prototype_object (length h.list)) (codes "prototype") (Obj (suc (length h.list))) kept_attrs)

pub opened_kept-function : (code params maker : ℕ) (h : Objects) → IsOpened h → IsOpened (new_function code params maker h)
opened_kept-function code params maker h is = rw (function_new code params maker h) (opened_kept _ _ (opened_kept h _ is))

-- the function with its marks

abbrev mark_property : List ℕ → Property
mark_property k = property k (Bool true) hidden_attrs

abbrev pub marked_object : ℕ → ℕ → ℕ → ℕ → Object
marked_object code params maker prototype = with_properties (function_object code params maker prototype)
    (property length_key (Num (pos params)) fixed_attrs ∷ property (codes "prototype") (Obj prototype) kept_attrs ∷ mark_property simple_mark ∷ mark_property frozen_mark ∷ [])

pub marked_new : (code params maker : ℕ) (h : Objects) → let i = length h.list in let p = suc (length h.list) in marked (marked (with_object (with_object h (function_object code params maker p)) (prototype_object i)) i simple_mark) i frozen_mark ≡ with_object (with_object h (marked_object code params maker p)) (prototype_object i)
marked_new code params maker h =
    let i = length h.list in
    let p = suc (length h.list) in
    let f = function_object code params maker p in
    let one = with_properties f (property length_key (Num (pos params)) fixed_attrs ∷ property (codes "prototype") (Obj p) kept_attrs ∷ mark_property simple_mark ∷ []) in
    ap (λ (g : Objects). marked g i frozen_mark) (defined_before h f (prototype_object i) simple_mark (Bool true) hidden_attrs)
    ∙ defined_before h one (prototype_object i) frozen_mark (Bool true) hidden_attrs

-- the last object but one gets the next name
pub named_before : (h : Objects) (o x : Object) (m : ℕ) → o.tag ≡ tag.None → named (with_object (with_object h o) x) (length h.list) m ≡ with_object (with_named h o m) x
named_before h o x m bare =
    let y = tagged o (next_name h m) in
    let free : is_untagged o.tag ≡ true = ap is_untagged bare in
    let one : length (with_object h o).list ≡ suc (length h.list) = length-grown h o h.counts in
    let less : length h.list < length (with_object h o).list = omega (arith, one) in
    let there : object_at (with_object (with_object h o) x) (length h.list) ≡ Some o = grown_kept (with_object h o) x h.counts (length h.list) o (grown_last h o h.counts) in
    let list : slice_set ((h.list ++ o ∷ []) ++ x ∷ []) (length h.list) y ≡ (h.list ++ y ∷ []) ++ x ∷ [] = set-append_left (h.list ++ o ∷ []) (x ∷ []) (length h.list) y less ∙ ap (λ l. l ++ x ∷ []) (set-append_seam h.list o [] y) in
    rw (there, free) (ap (λ l. let g : Objects = record { list = l; counts = slice_set h.counts m (raised (count_at (slice_get h.counts m))) } in g) list)
