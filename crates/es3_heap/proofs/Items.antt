-- The items of an array of a store are those that its properties give.
use Rattle.std.proofs.Common.{◌≡◌, ◌<◌, ℕ, zero, suc, ◌+◌, ◌-◌, List, [], ◌∷◌, ◌++◌, Option, Some, None, length, set, take, slice_get, get_or, refl, ap, sym, ◌∙◌, append_assoc, arith}
use Rattle.std.proofs.lemmas.Option.{slice_get_read}
use Rattle.caja_units.specs.Index.{number_units}
use Rattle.es3_objects.specs.declared.value.Value.{Value}
use Rattle.es3_objects.specs.Objects.{Property, Object}
use Rattle.es3_objects.specs.Items.{values_from, values_in}
use Rattle.es3_objects.specs.Items as props
use Rattle.es3_heap.specs.Objects.{Objects, object_at, props_of}
use Rattle.es3_heap.specs.Properties.{own, value_of, find, length_of, length_key, with_props}
use Rattle.es3_heap.specs.Items.{set_items, items_from, array_items, append_items, last_item, left_without, without_last}

values-from : (n i : ℕ) (h : Objects) (o : ℕ) → values_from n i (props_of (object_at h o)) ≡ items_from n i h o
values-from zero i h o = refl
values-from (suc n) i h o = ap (λ l. value_of (find (number_units i) (props_of (object_at h o))) ∷ l) (values-from n (i + 1) h o)

pub values-in : (h : Objects) (o : ℕ) → values_in (props_of (object_at h o)) ≡ array_items h o
values-in h o = values-from (length_of (value_of (find length_key (props_of (object_at h o))))) 0 h o

-- where there is an item at the index, the items from there on are that item and the others
pub items_from-item : (n i : ℕ) (h : Objects) (o : ℕ) → i < n → items_from (n - i) i h o ≡ value_of (own h o (number_units i)) ∷ items_from (n - (i + 1)) (i + 1) h o
items_from-item n i h o less =
    let more : n - i ≡ suc (n - (i + 1)) = omega arith in
    rw more refl

-- an item more of a list of items
pub items_from-more : (n i : ℕ) (h : Objects) (o : ℕ) (before after all : List Value) (x : Value) → i < n
    → before ++ items_from (n - i) i h o ≡ all
    → x ≡ value_of (own h o (number_units i))
    → after ≡ before ++ x ∷ []
    → after ++ items_from (n - (i + 1)) (i + 1) h o ≡ all
items_from-more n i h o before after all x less is item pushed =
    rw (pushed, append_assoc, item, ← items_from-item n i h o less) is

-- how many they are

length-items_from : (n i : ℕ) (h : Objects) (o : ℕ) → length (items_from n i h o) ≡ n
length-items_from zero i h o = refl
length-items_from (suc n) i h o = ap suc (length-items_from n (i + 1) h o)

pub length-array_items : (h : Objects) (o : ℕ) → length_of (value_of (own h o length_key)) ≡ length (array_items h o)
length-array_items h o = sym (length-items_from (length_of (value_of (own h o length_key))) 0 h o)

-- what is appended, and what is left without the last item

set-same : {X : Type 0} (xs : List X) (i : ℕ) (x : X) → slice_get xs i ≡ Some x → set xs i x ≡ xs
set-same [] i x is = cc
set-same (y ∷ ys) zero x is = cc
set-same (y ∷ ys) (suc i) x is = ap (λ l. y ∷ l) (set-same ys i x is)

with_props-same : (h : Objects) (o : ℕ) (x : Option Object) → object_at h o ≡ x → with_props h o x (props_of x) ≡ h
with_props-same h o None is = refl
with_props-same h o (Some x) is = ap (λ l. let all : Objects = record { list = l; counts = h.counts } in all) (set-same h.list o x is)

append-items : (h : Objects) (o : ℕ) (vs : List Value) → with_props h o (object_at h o) (props.appended vs (props_of (object_at h o))) ≡ append_items h o vs
append-items h o vs = ap (λ xs. set_items h o (xs ++ vs)) (values-in h o)

last-value : (h : Objects) (o : ℕ) → props.last_value (props_of (object_at h o)) ≡ last_item h o
last-value h o = ap (λ xs. slice_get xs (length xs - 1)) (values-in h o)

set-where : (h : Objects) (o : ℕ) (r : Option Value) (xs : List Value) → with_props h o (object_at h o) (props.set_where r xs (props_of (object_at h o))) ≡ left_without r xs o h
set-where h o None xs = with_props-same h o (object_at h o) refl
set-where h o (Some x) xs = refl

without-last : (h : Objects) (o : ℕ) → with_props h o (object_at h o) (props.without_last (props_of (object_at h o))) ≡ without_last h o
without-last h o = ap (λ xs. with_props h o (object_at h o) (props.set_where (slice_get xs (length xs - 1)) (take (length xs - 1) xs) (props_of (object_at h o)))) (values-in h o)
    ∙ set-where h o (last_item h o) (take (length (array_items h o) - 1) (array_items h o))

-- an object of the store gets other properties in its place

there : (h : Objects) (o : ℕ) (x : Object) → o < length h.list → x ≡ get_or h.list o x → object_at h o ≡ Some x
there h o x within read = slice_get_read h.list (length h.list) o x refl within read

with_props-at : (h : Objects) (o : ℕ) (x : Object) (ps : List Property) → o < length h.list → x ≡ get_or h.list o x
    → with_props h o (Some x) ps ≡ with_props h o (object_at h o) ps
with_props-at h o x ps within read = ap (λ y. with_props h o y ps) (sym (there h o x within read))

pub appended-at : (h : Objects) (o : ℕ) (x : Object) (ps : List Property) (vs : List Value) → o < length h.list → x ≡ get_or h.list o x
    → ps ≡ props.appended vs x.props → with_props h o (Some x) ps ≡ append_items h o vs
appended-at h o x ps vs within read is =
    with_props-at h o x ps within read ∙ ap (with_props h o (object_at h o)) (is ∙ ap (λ y. props.appended vs (props_of y)) (sym (there h o x within read))) ∙ append-items h o vs

pub last-at : (h : Objects) (o : ℕ) (x : Object) (r : Option Value) → o < length h.list → x ≡ get_or h.list o x → r ≡ props.last_value x.props → r ≡ last_item h o
last-at h o x r within read is = is ∙ ap (λ y. props.last_value (props_of y)) (sym (there h o x within read)) ∙ last-value h o

pub without_last-at : (h : Objects) (o : ℕ) (x : Object) (ps : List Property) → o < length h.list → x ≡ get_or h.list o x
    → ps ≡ props.without_last x.props → with_props h o (Some x) ps ≡ without_last h o
without_last-at h o x ps within read is =
    with_props-at h o x ps within read ∙ ap (with_props h o (object_at h o)) (is ∙ ap (λ y. props.without_last (props_of y)) (sym (there h o x within read))) ∙ without-last h o
