-- Objects that stand for nodes, and functions of texts, stay such.
use Rattle.std.proofs.Common.{◌≡◌, ℕ, ◌<◌, true, false, List, [], ◌∷◌, ◌++◌, Option, Some, None, length, set, cond, refl, sym, ap, ◌∙◌, subst}
use Rattle.std.specs.Prelude.{slice_get, slice_set}
use Rattle.std.proofs.Math.Dec.{eqb}
use Rattle.std.proofs.lemmas.Bool.{eqb-true}
use Rattle.std.proofs.lemmas.Option.{slice_get_within}
use Rattle.es3_objects.specs.declared.value.Value.{Value}
use Rattle.es3_objects.specs.declared.value.Class.TheVariants as class
use Rattle.es3_objects.specs.declared.value.Tag.{Tag}
use Rattle.es3_objects.specs.declared.value.Tag.TheVariants as tag
use Rattle.es3_objects.specs.Reading.{kind_of}
use Rattle.es3_heap.specs.Objects.{Property, Object, Objects, object_at, props_of, class_of, with_object, replaced}
use Rattle.es3_heap.specs.Properties.{can_put, with_props, put, lengthened, written}
use Rattle.es3_heap.specs.Items.{last_item, left_without}
use Rattle.es3_heap.specs.Making.{array_object, error_object, plain_object, bare, is_untagged, awaits_name, with_tag, named, count_at, raised}
use Rattle.doc_laws.proofs.Lists.{get_push, get_push_other, get_past, get_set, get_set_other, apart}
use Rattle.dom_laws.specs.Store.{is_code, Alike, Keeps, StoreKeeps}

same_object : (x : Option Object) → Alike x x
same_object x = record { name = λ r k is. is; no_name = λ r k is. is; node = λ is. is; no_node = λ is. is; code = λ is. is }

pub equal : (x y : Option Object) → y ≡ x → Alike x y
equal x y e = subst (Alike x) (sym e) (same_object x)

pub keeps-same : (h : Objects) → Keeps h h
keeps-same h = λ o. same_object (object_at h o)

pub keeps-then : (h g f : Objects) → Keeps h g → Keeps g f → Keeps h f
keeps-then h g f a b = λ o. record {
  name = λ r k is. (b o).name r k ((a o).name r k is);
  no_name = λ r k is. (a o).no_name r k ((b o).no_name r k is);
  node = λ is. (b o).node ((a o).node is);
  no_node = λ is. (a o).no_node ((b o).no_node is);
  code = λ is. (b o).code ((a o).code is);
}

-- a new object
pub keeps-new : (h : Objects) (x : Object) → x.tag ≡ tag.None → (x.class ≡ class.Node → ⊥) → Keeps h (with_object h x)
keeps-new h x untagged no_node = λ o.
    let cases = elim (eqb o (length h.list)) as (λ b. eqb o (length h.list) ≡ b → Alike (object_at h o) (object_at (with_object h x) o)) [
      | true ↦ λ yes.
          let last : o ≡ length h.list = eqb-true o (length h.list) yes in
          let before : object_at h o ≡ None = ap (slice_get h.list) last ∙ get_past h.list in
          let after : object_at (with_object h x) o ≡ Some x = ap (slice_get (h.list ++ x ∷ [])) last ∙ get_push h.list x in
          rw (before, after) (record { name = λ r k is. cc; no_name = λ r k is. cc; node = λ is. cc; no_node = λ is. absurd (no_node is); code = λ is. cc })
      | false ↦ λ other. equal (object_at h o) (object_at (with_object h x) o) (get_push_other h.list o x (apart o (length h.list) other))
    ] in cases refl

-- another object in the place of one, of the same class and with the same call
in_place : (x y : Object) → ((r k : ℕ) → x.tag ≡ tag.Facet r k → y.tag ≡ tag.Facet r k) → ((r k : ℕ) → y.tag ≡ tag.Facet r k → x.tag ≡ tag.Facet r k) → y.class ≡ x.class → y.callable ≡ x.callable → Alike (Some x) (Some y)
in_place x y on back sort call = record {
  name = on;
  no_name = back;
  node = λ is. sort ∙ is;
  no_node = λ is. sym sort ∙ is;
  code = λ is. ap (λ f. is_code (kind_of f)) call ∙ is;
}

keeps-replaced : (h : Objects) (n : ℕ) (x y : Object) → object_at h n ≡ Some x → Alike (Some x) (Some y) → n < length h.list → Keeps h (replaced h n y)
keeps-replaced h n x y is alike less = λ o.
    let cases = elim (eqb o n) as (λ b. eqb o n ≡ b → Alike (object_at h o) (object_at (replaced h n y) o)) [
      | true ↦ λ yes.
          let same : o ≡ n = eqb-true o n yes in
          let before : object_at h o ≡ Some x = ap (slice_get h.list) same ∙ is in
          let after : object_at (replaced h n y) o ≡ Some y = ap (slice_get (set h.list n y)) same ∙ get_set h.list n y less in
          rw (before, after) alike
      | false ↦ λ other. equal (object_at h o) (object_at (replaced h n y) o) (get_set_other h.list o n y (apart o n other))
    ] in cases refl

keeps-props : (h : Objects) (n : ℕ) (ps : List Property) → Keeps h (with_props h n (object_at h n) ps)
keeps-props h n ps = at (object_at h n) refl
  where
    at : (x : Option Object) → object_at h n ≡ x → Keeps h (with_props h n x ps)
    at None is = keeps-same h
    at (Some x) is =
        let y : Object = record { class = x.class; proto = x.proto; callable = x.callable; tag = x.tag; props = ps } in
        keeps-replaced h n x y is (in_place x y (λ r k e. e) (λ r k e. e) refl refl) (slice_get_within h.list n x is)

keeps-put : (h : Objects) (o : ℕ) (k : List ℕ) (x : Value) → Keeps h (put h o k x)
keeps-put h o k x = elim (can_put h o k) as (λ b. Keeps h (cond b (with_props h o (object_at h o) (lengthened (class_of (object_at h o)) k (written k x (props_of (object_at h o))))) h)) [
  | true ↦ keeps-props h o _
  | false ↦ keeps-same h
]

keeps-last : (h : Objects) (o : ℕ) (x : Option Value) (xs : List Value) → Keeps h (left_without x xs o h)
keeps-last h o None xs = keeps-same h
keeps-last h o (Some x) xs = keeps-props h o _

no_facet : (t : Tag) (r k : ℕ) → is_untagged t ≡ true → t ≡ tag.Facet r k → ⊥
no_facet t r k free is = let none : is_untagged (tag.Facet r k) ≡ true = ap is_untagged (sym is) ∙ free in cc (none)

-- a name for one that has none
pub keeps-named : (h : Objects) (n m : ℕ) → Keeps h (named h n m)
keeps-named h n m = at (object_at h n) refl
  where
    at : (x : Option Object) → object_at h n ≡ x
        → Keeps h (cond (awaits_name x) (record { list = (with_tag h n x (tag.Made m (count_at (slice_get h.counts m)))).list; counts = slice_set h.counts m (raised (count_at (slice_get h.counts m))) }) h)
    at None is = keeps-same h
    at (Some x) is =
        let t : Tag = tag.Made m (count_at (slice_get h.counts m)) in
        let y : Object = record { class = x.class; proto = x.proto; callable = x.callable; tag = t; props = x.props } in
        let cases = elim (is_untagged x.tag) as (λ b. is_untagged x.tag ≡ b → Keeps h (cond b (record { list = (replaced h n y).list; counts = slice_set h.counts m (raised (count_at (slice_get h.counts m))) }) h)) [
          | true ↦ λ free. keeps-replaced h n x y is (in_place x y (λ r k e. absurd (no_facet x.tag r k free e)) (λ r k e. cc) refl refl) (slice_get_within h.list n x is)
          | false ↦ λ other. keeps-same h
        ] in cases refl

pub store_keeps : StoreKeeps
store_keeps = record {
  put = keeps-put;
  define = λ h o k x a. keeps-props h o _;
  delete = λ h o k. keeps-props h o _;
  set_items = λ h o xs. keeps-props h o _;
  append_items = λ h o xs. keeps-props h o _;
  without_last = λ h o. keeps-last h o (last_item h o) _;
  made = λ h c p ne. keeps-new h (plain_object c p) refl ne;
  made_function = λ h k m. keeps-new h (bare class.Function (Some 1) (Some (record { kind = k; maker = m }))) refl (λ e. cc);
  made_array = λ h xs. keeps-new h (array_object xs) refl (λ e. cc);
  made_error = λ h p name message. keeps-new h (error_object p name message) refl (λ e. cc);
  named = keeps-named;
}
