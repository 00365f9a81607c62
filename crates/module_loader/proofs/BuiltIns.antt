-- What the tables make is what a page begins with.
use Rattle.std.proofs.Common.{◌≡◌, ℕ, true, List, [], ◌∷◌, length, map, Some, None, refl, sym, ap, ◌∙◌, subst}
use Rattle.es3_objects.specs.declared.value.Value.TheVariants.{Obj, Bool}
use Rattle.es3_objects.specs.declared.value.Class.TheVariants as class
use Rattle.es3_objects.specs.declared.value.Tag.{Tag}
use Rattle.es3_objects.specs.declared.value.Tag.TheVariants as tag
use Rattle.es3_heap.specs.Objects.{Objects, plain_attrs, hidden_attrs}
use Rattle.es3_heap.specs.Properties.{define}
use Rattle.es3_heap.specs.Making.{tagged}
use Rattle.rows.specs.Rows.{Native}
use Rattle.rows.specs.Names.{Tools, of_cajita, of_math, tools}
use Rattle.heap_rows.specs.Marks.{marked, frozen_mark}
use Rattle.heap_rows.specs.Natives.{kind_of, tag_of_native, tag_of_tools}
use Rattle.heap_rows.specs.Opening.{first, common, place_of, with_tools, with_record, with_natives, opened}
use Rattle.heap_rows.proofs.Made.{ending, holder, define_last, tagged_last, entries, frozen_entries, record_object, with_tools_last, with_record_is}
use Rattle.module_loader.specs.declared.built_ins.TheConstants.{CAJITA_FUNCTIONS, MATH_FUNCTIONS, FUNCTIONS}
use Rattle.module_loader.specs.BuiltIns.{number_in, with_functions, with_entries, with_frozen, with_built_ins}

-- the records

places_of : List (List ℕ × Native) → List (List ℕ × ℕ)
places_of [] = []
places_of ((k, f) ∷ rest) = (k, place_of f) ∷ places_of rest

entries_are : (es : List (List ℕ × Native)) (o : ℕ) (h : Objects) → with_entries (places_of es) o h ≡ with_tools es o h
unfolding places_of
entries_are [] o h = refl
entries_are ((k, f) ∷ rest) o h = entries_are rest o (define h o k (Obj (place_of f)) plain_attrs)

frozen_is : (t : Tools) (name : Tag) (h : Objects) → name ≡ tag_of_tools t → with_frozen (places_of (tools t)) name h ≡ with_record t h
unfolding frozen_entries record_object
frozen_is t name h same =
    let base = ending h.counts h.list (holder []) in
    let at = length h.list in
    ap (λ g. tagged (marked g at frozen_mark) at name) (entries_are (tools t) at base ∙ with_tools_last (tools t) h.counts h.list [])
    ∙ ap (λ g. tagged g at name) (define_last h.counts h.list (entries (tools t) []) frozen_mark (Bool true) hidden_attrs)
    ∙ ap (tagged (ending h.counts h.list (holder (frozen_entries t))) at) same
    ∙ tagged_last h.counts h.list class.Object (Some 0) None (frozen_entries t) (tag_of_tools t)
    ∙ sym (with_record_is t h)

-- the functions

tags : List Native → List Tag
tags fs = map (λ f. tag.Built (number_in (kind_of f))) fs

functions_are : (fs : List Native) (h : Objects) → tags fs ≡ map tag_of_native fs → with_functions (map kind_of fs) h ≡ with_natives fs h
unfolding tags
functions_are [] h same = refl
functions_are (f ∷ fs) h same =
    let first_same : tag.Built (number_in (kind_of f)) ≡ tag_of_native f = cc in
    let rest_same : map (λ f. tag.Built (number_in (kind_of f))) fs ≡ map tag_of_native fs = cc in
    let k = kind_of f in
    functions_are fs _ rest_same ∙ ap (λ t. with_natives fs (tagged (Rattle.es3_heap.specs.Making.made_function k 0 h) (length h.list) t)) first_same

common_tags : tags common ≡ map tag_of_native common
unfolding tags
common_tags = refl

-- the tables

kinds_table : FUNCTIONS ≡ map kind_of common
kinds_table = refl

cajita_table : map (λ f. (f.0.now, f.1)) CAJITA_FUNCTIONS ≡ places_of (tools of_cajita)
unfolding places_of
cajita_table = refl

math_table : map (λ f. (f.0.now, f.1)) MATH_FUNCTIONS ≡ places_of (tools of_math)
unfolding places_of
math_table = refl

built : (a b : Tools) (fs : List Native) (h : Objects) → tags fs ≡ map tag_of_native fs → tag.Built 0 ≡ tag_of_tools a → tag.Built 1 ≡ tag_of_tools b
    → with_functions (map kind_of fs) (with_frozen (places_of (tools b)) (tag.Built 1) (with_frozen (places_of (tools a)) (tag.Built 0) h)) ≡ with_natives fs (with_record b (with_record a h))
built a b fs h numbers zeroth oneth =
    functions_are fs _ numbers
    ∙ ap (λ g. with_natives fs (with_frozen (places_of (tools b)) (tag.Built 1) g)) (frozen_is a (tag.Built 0) h zeroth)
    ∙ ap (with_natives fs) (frozen_is b (tag.Built 1) (with_record a h) oneth)

pub opened_is : with_built_ins first ≡ opened
unfolding opened with_built_ins
opened_is =
    subst (λ ks. with_functions ks (with_frozen (map (λ f. (f.0.now, f.1)) MATH_FUNCTIONS) (tag.Built 1) (with_frozen (map (λ f. (f.0.now, f.1)) CAJITA_FUNCTIONS) (tag.Built 0) first)) ≡ opened) (sym kinds_table)
    (subst (λ ms. with_functions (map kind_of common) (with_frozen ms (tag.Built 1) (with_frozen (map (λ f. (f.0.now, f.1)) CAJITA_FUNCTIONS) (tag.Built 0) first)) ≡ opened) (sym math_table)
    (subst (λ cs. with_functions (map kind_of common) (with_frozen (places_of (tools of_math)) (tag.Built 1) (with_frozen cs (tag.Built 0) first)) ≡ opened) (sym cajita_table)
    (built of_cajita of_math common first common_tags refl refl)))
