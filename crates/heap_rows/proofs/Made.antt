-- What the objects of the opening are: each is made behind the others, and then changed where it stands.
use Rattle.std.proofs.Common.{◌≡◌, ℕ, suc, ◌+◌, true, List, [], ◌∷◌, ◌++◌, length, Option, Some, None, cond, refl, ap, ◌∙◌, append_assoc, arith}
use Rattle.std.specs.Prelude.{slice_get, slice_set}
use Rattle.std.proofs.lemmas.List.{length-append}
use Rattle.es3_objects.specs.declared.value.Value.{Value}
use Rattle.es3_objects.specs.declared.value.Value.TheVariants.{Obj, Bool}
use Rattle.es3_objects.specs.declared.value.Attrs.{Attrs}
use Rattle.es3_objects.specs.declared.value.Class.{Class}
use Rattle.es3_objects.specs.declared.value.Class.TheVariants as class
use Rattle.es3_objects.specs.declared.value.Tag.{Tag}
use Rattle.es3_objects.specs.declared.value.Tag.TheVariants as tag
use Rattle.es3_heap.specs.Objects.{Property, Callable, Object, Objects, plain_attrs, hidden_attrs, props_of}
use Rattle.es3_heap.specs.Properties.{define, defined, with_props}
use Rattle.es3_heap.specs.Making.{tagged, with_tag, awaits_name}
use Rattle.rows.specs.Rows.{Native}
use Rattle.rows.specs.Names.{Tools, of_cajita, of_math, tools}
use Rattle.heap_rows.specs.Marks.{marked, freeze, frozen_mark, without_set_marks}
use Rattle.heap_rows.specs.Natives.{kind_of, tag_of_native, tag_of_tools}
use Rattle.heap_rows.specs.Opening.{first, first_count, common, place_of, with_tools, with_record, with_native, with_natives, opened, own_function, with_module, begun, fixed_values, first_say, imports_id, opened_for_one}
use Rattle.heap_rows.specs.Doing.{copied, record_object as record_of}

-- the last object of a store

get_last : (l : List Object) (x : Object) → slice_get (l ++ x ∷ []) (length l) ≡ Some x
get_last [] x = refl
get_last (y ∷ l) x = get_last l x

set_last : (l : List Object) (x y : Object) → slice_set (l ++ x ∷ []) (length l) y ≡ l ++ y ∷ []
set_last [] x y = refl
set_last (z ∷ l) x y = ap (λ q. z ∷ q) (set_last l x y)

abbrev pub stored : List ℕ → List Object → Objects
stored c l = record { list = l; counts = c }

abbrev pub ending : List ℕ → List Object → Object → Objects
ending c l x = stored c (l ++ x ∷ [])

-- an object, by its parts
abbrev pub whole : Class → Option ℕ → Option Callable → Tag → List Property → Object
whole k p f t ps = record { class = k; proto = p; callable = f; tag = t; props = ps }

abbrev pub holder : List Property → Object
holder ps = whole class.Object (Some 0) None tag.None ps

pub define_last : (c : List ℕ) (l : List Object) (ps : List Property) (k : List ℕ) (v : Value) (a : Attrs) → define (ending c l (holder ps)) (length l) k v a ≡ ending c l (holder (defined k v a ps))
define_last c l ps k v a =
    ap (λ q. with_props (ending c l (holder ps)) (length l) q (defined k v a (props_of q))) (get_last l (holder ps))
    ∙ ap (stored c) (set_last l (holder ps) (holder (defined k v a ps)))

freeze_last : (c : List ℕ) (l : List Object) (ps : List Property) → freeze (ending c l (holder ps)) (length l) ≡ ending c l (holder (defined frozen_mark (Bool true) hidden_attrs (without_set_marks ps)))
freeze_last c l ps =
    ap (λ q. marked (with_props (ending c l (holder ps)) (length l) q (without_set_marks (props_of q))) (length l) frozen_mark) (get_last l (holder ps))
    ∙ ap (λ q. marked (stored c q) (length l) frozen_mark) (set_last l (holder ps) (holder (without_set_marks ps)))
    ∙ define_last c l (without_set_marks ps) frozen_mark (Bool true) hidden_attrs

pub tagged_last : (c : List ℕ) (l : List Object) (k : Class) (p : Option ℕ) (f : Option Callable) (ps : List Property) (t : Tag) → tagged (ending c l (whole k p f tag.None ps)) (length l) t ≡ ending c l (whole k p f t ps)
tagged_last c l k p f ps t =
    ap (λ q. cond (awaits_name q) (with_tag (ending c l (whole k p f tag.None ps)) (length l) q t) (ending c l (whole k p f tag.None ps))) (get_last l (whole k p f tag.None ps))
    ∙ ap (stored c) (set_last l (whole k p f tag.None ps) (whole k p f t ps))

-- a record of functions

unfoldable pub entries : List (List ℕ × Native) → List Property → List Property
entries [] ps = ps
entries ((k, f) ∷ rest) ps = entries rest (defined k (Obj (place_of f)) plain_attrs ps)

pub with_tools_last : (es : List (List ℕ × Native)) (c : List ℕ) (l : List Object) (ps : List Property) → with_tools es (length l) (ending c l (holder ps)) ≡ ending c l (holder (entries es ps))
unfolding entries
with_tools_last [] c l ps = refl
with_tools_last ((k, f) ∷ rest) c l ps = ap (with_tools rest (length l)) (define_last c l ps k (Obj (place_of f)) plain_attrs) ∙ with_tools_last rest c l (defined k (Obj (place_of f)) plain_attrs ps)

-- no mark for writing is there to be taken away
unfoldable pub frozen_entries : Tools → List Property
frozen_entries t = defined frozen_mark (Bool true) hidden_attrs (entries (tools t) [])

no_marks : (t : Tools) → without_set_marks (entries (tools t) []) ≡ entries (tools t) []
unfolding entries
no_marks of_cajita = refl
no_marks of_math = refl

unfoldable pub record_object : Tools → Object
record_object t = whole class.Object (Some 0) None (tag_of_tools t) (frozen_entries t)

pub with_record_is : (t : Tools) (h : Objects) → with_record t h ≡ ending h.counts h.list (record_object t)
unfolding frozen_entries record_object
with_record_is t h =
    ap (λ g. tagged (freeze g (length h.list)) (length h.list) (tag_of_tools t)) (with_tools_last (tools t) h.counts h.list [])
    ∙ ap (λ g. tagged g (length h.list) (tag_of_tools t)) (freeze_last h.counts h.list (entries (tools t) []))
    ∙ ap (λ ps. tagged (ending h.counts h.list (holder (defined frozen_mark (Bool true) hidden_attrs ps))) (length h.list) (tag_of_tools t)) (no_marks t)
    ∙ tagged_last h.counts h.list class.Object (Some 0) None (frozen_entries t) (tag_of_tools t)

-- the functions

unfoldable pub native_object : Native → Object
native_object f = whole class.Function (Some 1) (Some (record { kind = kind_of f; maker = 0 })) (tag_of_native f) []

unfoldable pub native_objects : List Native → List Object
native_objects [] = []
native_objects (f ∷ fs) = native_object f ∷ native_objects fs

with_native_is : (f : Native) (c : List ℕ) (l : List Object) → with_native f (stored c l) ≡ ending c l (native_object f)
unfolding native_object
with_native_is f c l = tagged_last c l class.Function (Some 1) (Some (record { kind = kind_of f; maker = 0 })) [] (tag_of_native f)

append_none : (l : List Object) → l ≡ l ++ []
append_none [] = refl
append_none (x ∷ l) = ap (λ q. x ∷ q) (append_none l)

with_natives_is : (fs : List Native) (c : List ℕ) (l : List Object) → with_natives fs (stored c l) ≡ stored c (l ++ native_objects fs)
unfolding native_objects
with_natives_is [] c l = ap (stored c) (append_none l)
with_natives_is (f ∷ fs) c l = ap (with_natives fs) (with_native_is f c l) ∙ with_natives_is fs c (l ++ native_object f ∷ []) ∙ ap (stored c) (append_assoc l (native_object f ∷ []) (native_objects fs))

built : (a b : Tools) (fs : List Native) (h : Objects) → with_natives fs (with_record b (with_record a h)) ≡ stored h.counts (h.list ++ record_object a ∷ record_object b ∷ native_objects fs)
built a b fs h =
    ap (λ g. with_natives fs (with_record b g)) (with_record_is a h)
    ∙ ap (with_natives fs) (with_record_is b (ending h.counts h.list (record_object a)))
    ∙ with_natives_is fs h.counts ((h.list ++ record_object a ∷ []) ++ record_object b ∷ [])
    ∙ ap (stored h.counts) (append_assoc (h.list ++ record_object a ∷ []) (record_object b ∷ []) (native_objects fs) ∙ append_assoc h.list (record_object a ∷ []) (record_object b ∷ native_objects fs))

pub opened_is : opened ≡ stored first.counts (first.list ++ record_object of_cajita ∷ record_object of_math ∷ native_objects common)
unfolding opened
opened_is = built of_cajita of_math common first

-- how many there are

first_long : length first.list ≡ first_count
unfolding first
first_long = refl

natives_long : (fs : List Native) → length (native_objects fs) ≡ length fs
unfolding native_objects
natives_long [] = refl
natives_long (f ∷ fs) = ap suc (natives_long fs)

pub opened_long : length opened.list ≡ first_count + 52
opened_long =
    let l = ap (λ h. length h.list) opened_is in
    let m = length-append first.list (record_object of_cajita ∷ record_object of_math ∷ native_objects common) in
    let n = natives_long common in
    let f = first_long in
    omega (arith, l, m, n, f)

pub module_long : (m : ℕ) (h : Objects) → length (with_module m h).list ≡ length h.list + 2
module_long m h =
    let say = own_function m 0 in
    let later = own_function m 1 in
    let a = length-append h.list (say ∷ []) in
    let b = length-append (h.list ++ say ∷ []) (later ∷ []) in
    omega (arith, a, b)

pub begun_long : length (begun 1 0).list ≡ imports_id
begun_long = let a = module_long 0 opened in let b = opened_long in omega (arith, a, b)

pub one_long : length opened_for_one.list ≡ imports_id + 1
unfolding opened_for_one
one_long = let a = length-append (begun 1 0).list (record_of (copied (fixed_values first_say)) ∷ []) in let b = begun_long in omega (arith, a, b)
