-- The first thirty objects of a page's store: none has a name or a mark of a key, and only the prototype of Object has conversions.
use Rattle.std.proofs.Common.{◌≡◌, ℕ, zero, suc, ◌+◌, ◌<◌, Bool, true, false, List, [], ◌∷◌, ◌++◌, length, Option, Some, None, refl, ap, ◌∙◌, cond, subst, arith}
use Rattle.std.specs.Prelude.{slice_get, codes, replicate, drop}
use Rattle.std.proofs.lemmas.Option.{none-some}
use Rattle.caja_units.specs.Units.{same_units, is_hidden}
use Rattle.es3_objects.specs.declared.value.Value.TheVariants as es
use Rattle.es3_objects.specs.declared.value.Class.{Class}
use Rattle.es3_objects.specs.declared.value.Class.TheVariants as class
use Rattle.es3_objects.specs.declared.value.FuncKind.TheVariants as kind
use Rattle.es3_objects.specs.declared.value.Tag.TheVariants as tag
use Rattle.es3_objects.specs.declared.value.Proto.{Proto}
use Rattle.es3_objects.specs.declared.value.Proto.TheVariants as proto
use Rattle.es3_heap.specs.Objects as heap
use Rattle.es3_heap.specs.Objects.{Property, Callable, object_at, hidden_attrs}
use Rattle.es3_heap.specs.Properties.{find, own, may_write}
use Rattle.es3_heap.specs.Making.{bare, first_objects, proto_id}
use Rattle.es3_convert.specs.Conversions.{to_string}
use Rattle.heap_rows.specs.Marks.{read_mark, set_mark}
use Rattle.heap_rows.specs.Opening.{first, first_count, load_module, guard_names, runtime_id}
use Rattle.row_simulation.specs.RowLaw.{IsFirst, proto_above}
use Rattle.row_simulation.proofs.Frozen.{first_guest}
use Rattle.row_simulation.proofs.Keys.{apart_too, hidden_read, hidden_set, read_runtime, set_runtime}

-- a list, item by item with its place

unfoldable pub AllFrom : (ℕ → heap.Object → Type 0) → ℕ → List heap.Object → Type 0
AllFrom P n [] = Unit {0}
AllFrom P n (x ∷ xs) = P n x × AllFrom P (suc n) xs

some_object : (a b : heap.Object) → (let q : Option heap.Object = Some a in q) ≡ Some b → a ≡ b
some_object a b e = cc

pub each_at : (P : ℕ → heap.Object → Type 0) (n : ℕ) (xs : List heap.Object) → AllFrom P n xs → (i : ℕ) (o : heap.Object) → slice_get xs i ≡ Some o → P (n + i) o
unfolding AllFrom
each_at P n [] a i o e = absurd (none-some o e)
each_at P n (x ∷ xs) a zero o e = subst (λ q. P (n + 0) q) (some_object x o e) (subst (λ k. P k x) (omega arith) a.0)
each_at P n (x ∷ xs) a (suc i) o e = subst (λ k. P k o) (omega arith) (each_at P (suc n) xs a.1 i o e)

pub both_from : (P : ℕ → heap.Object → Type 0) (n : ℕ) (xs ys : List heap.Object) → AllFrom P n xs → AllFrom P (length xs + n) ys → AllFrom P n (xs ++ ys)
unfolding AllFrom
both_from P n [] ys a b = subst (λ k. AllFrom P k ys) (omega arith) b
both_from P n (x ∷ xs) ys a b = (a.0, both_from P (suc n) xs ys a.1 (subst (λ k. AllFrom P k ys) (omega arith) b))

-- the objects, one by one

abbrev pub hidden : List ℕ → ℕ → Property
hidden key at = record { key = key; value = es.Obj at; attrs = hidden_attrs }

abbrev pub simple_function : ℕ → heap.Object
simple_function number = bare class.Function (Some 1) (Some (record { kind = kind.Simple number; maker = 0 }))

abbrev pub holder : Option ℕ → List Property → heap.Object
holder up props = record { class = class.Object; proto = up; callable = None; tag = tag.None; props = props }

-- functions by their names: where each stands, and what each is
unfoldable pub hidden_props : List (List ℕ) → ℕ → List Property
hidden_props [] at = []
hidden_props (name ∷ names) at = hidden name at ∷ hidden_props names (suc at)

unfoldable pub hidden_functions : List (List ℕ) → ℕ → List heap.Object
hidden_functions [] number = []
hidden_functions (name ∷ names) number = simple_function number ∷ hidden_functions names (suc number)

abbrev pub conversion_names : List (List ℕ)
conversion_names = codes "toString" ∷ codes "valueOf" ∷ []

abbrev pub guards : List Property
guards = hidden_props guard_names 12

abbrev pub global_names : List Property
global_names = hidden (codes "___") runtime_id ∷ []

abbrev pub conversions : List Property
conversions = hidden_props conversion_names 28

-- behind the prototypes
abbrev later : List heap.Object
later = holder (Some 0) guards ∷ holder None global_names ∷ hidden_functions guard_names load_module ++ hidden_functions conversion_names to_string

unfoldable pub first_list : List heap.Object
first_list = holder None conversions ∷ drop 1 first_objects ++ later

pub first_list_is : first ≡ record { list = first_list; counts = replicate 64 0 }
unfolding first first_list hidden_props hidden_functions
first_list_is = refl

pub first_list_count : length first_list ≡ first_count
unfolding first_list hidden_functions
first_list_count = refl

pub first_many : length first.list ≡ first_count
first_many = ap (λ h. length h.list) first_list_is ∙ first_list_count

-- what holds of each, by its place

pub record IsUnnamed (i : ℕ) (o : heap.Object) : Type 0 where
  pub untagged : o.tag ≡ tag.None
  pub no_text : 0 < i → find (codes "toString") o.props ≡ None
  pub no_value : 0 < i → find (codes "valueOf") o.props ≡ None
  pub reads : (k : List ℕ) → find (read_mark k) o.props ≡ None
  pub sets : (k : List ℕ) → find (set_mark k) o.props ≡ None
  pub above : (p : ℕ) → o.proto ≡ Some p → p < first_count

pub up_few : (q p : ℕ) → q < first_count → (let x : Option ℕ = Some q in x) ≡ Some p → p < first_count
up_few q p lt e = let same : q ≡ p = cc in omega (arith, same, lt)

-- a function or an object without properties
plain : {i : ℕ} (c : Class) (q : ℕ) (f : Option Callable) → q < first_count → IsUnnamed i (bare c (Some q) f)
plain c q f lt = record { untagged = refl; no_text = λ past. refl; no_value = λ past. refl; reads = λ k. refl; sets = λ k. refl; above = λ p e. up_few q p lt e }

below_top : {i : ℕ} → IsUnnamed i (bare class.Object (Some 0) None)
below_top = plain class.Object 0 None (omega arith)

below_error : {i : ℕ} → IsUnnamed i (bare class.Object (Some 6) None)
below_error = plain class.Object 6 None (omega arith)

function_unnamed : {i : ℕ} (number : ℕ) → IsUnnamed i (simple_function number)
function_unnamed number = plain class.Function 1 _ (omega arith)

functions_unnamed : (names : List (List ℕ)) (number i : ℕ) → AllFrom IsUnnamed i (hidden_functions names number)
unfolding AllFrom hidden_functions
functions_unnamed [] number i = tt
functions_unnamed (name ∷ names) number i = (function_unnamed number, functions_unnamed names (suc number) (suc i))

-- keys of which none is hidden are no mark

all_shown : List (List ℕ) → Bool
all_shown [] = true
all_shown (name ∷ names) = cond (is_hidden name) false (all_shown names)

no_mark : (names : List (List ℕ)) (at : ℕ) (m : List ℕ) → is_hidden m ≡ true → all_shown names ≡ true → find m (hidden_props names at) ≡ None
unfolding all_shown hidden_props
no_mark [] at m hidden shown = refl
no_mark (name ∷ names) at m hidden shown =
    let q = first_guest (is_hidden name) (all_shown names) shown in
    rw (apart_too name m q.0 hidden) (no_mark names (suc at) m hidden q.1)

guards_shown : all_shown guard_names ≡ true
unfolding all_shown
guards_shown = refl

conversions_shown : all_shown conversion_names ≡ true
unfolding all_shown
conversions_shown = refl

guards_apart : (find (codes "toString") guards ≡ None) × (find (codes "valueOf") guards ≡ None)
unfolding hidden_props
guards_apart = (refl, refl)

top_unnamed : IsUnnamed 0 (holder None conversions)
top_unnamed = record {
  untagged = refl;
  no_text = λ past. absurd (omega (arith, past));
  no_value = λ past. absurd (omega (arith, past));
  reads = λ k. no_mark conversion_names 28 (read_mark k) (hidden_read k) conversions_shown;
  sets = λ k. no_mark conversion_names 28 (set_mark k) (hidden_set k) conversions_shown;
  above = λ p e. absurd (none-some p e);
}

runtime_unnamed : {i : ℕ} → IsUnnamed i (holder (Some 0) guards)
runtime_unnamed = record {
  untagged = refl;
  no_text = λ past. guards_apart.0;
  no_value = λ past. guards_apart.1;
  reads = λ k. no_mark guard_names 12 (read_mark k) (hidden_read k) guards_shown;
  sets = λ k. no_mark guard_names 12 (set_mark k) (hidden_set k) guards_shown;
  above = λ p e. up_few 0 p (omega arith) e;
}

globals_unnamed : {i : ℕ} → IsUnnamed i (holder None global_names)
globals_unnamed = record { untagged = refl; no_text = λ past. refl; no_value = λ past. refl; reads = λ k. rw (read_runtime k) refl; sets = λ k. rw (set_runtime k) refl; above = λ p e. absurd (none-some p e) }

later_unnamed : AllFrom IsUnnamed 10 later
unfolding AllFrom
later_unnamed = (runtime_unnamed, (globals_unnamed, both_from IsUnnamed 12 (hidden_functions guard_names load_module) _ (functions_unnamed guard_names load_module 12) (functions_unnamed conversion_names to_string _)))

pub all_unnamed : AllFrom IsUnnamed 0 first_list
unfolding AllFrom first_list
all_unnamed = (top_unnamed, (below_top, (below_top, (below_top, (below_top, (below_top, (below_top, (below_error, (below_error, (below_top, later_unnamed))))))))))

-- by whether there is one

pub by_first : (i : ℕ) (P : Option heap.Object → Type 0) → P None → ((o : heap.Object) → IsUnnamed i o → P (Some o)) → P (slice_get first_list i)
by_first i P none some = elim (slice_get first_list i) as (λ q. slice_get first_list i ≡ q → P q) [
  | None ↦ λ e. none
  | Some o ↦ λ e. some o (subst (λ k. IsUnnamed k o) (omega arith) (each_at IsUnnamed 0 first_list all_unnamed i o e))
] refl

first_at : (i : ℕ) → object_at first i ≡ slice_get first_list i
first_at i = ap (λ h. object_at h i) first_list_is

-- the prototype of Object keeps no key from being written
free_hidden : (names : List (List ℕ)) (at : ℕ) (k : List ℕ) → may_write (find k (hidden_props names at)) ≡ true
unfolding hidden_props
free_hidden [] at k = refl
free_hidden (name ∷ names) at k = elim (same_units k name) as (λ b. may_write (cond b (Some (hidden name at)) (find k (hidden_props names (suc at)))) ≡ true) [
  | true ↦ refl
  | false ↦ free_hidden names (suc at) k
]

above : (p : Proto) → heap.proto_of (object_at first (proto_id p)) ≡ proto_above p
unfolding first
above proto.Object = refl
above proto.TypeError = refl
above proto.RangeError = refl
above p = refl

first_free : (k : List ℕ) → may_write (find k (heap.props_of (slice_get first_list 0))) ≡ true
unfolding first_list
first_free k = free_hidden conversion_names 28 k

pub first_is : IsFirst first
unfolding first
first_is = record {
  some = let many = first_many in omega (arith, many);
  above = above;
  free = λ k. ap (λ h. may_write (own h 0 k)) first_list_is ∙ first_free k;
  text = refl;
  value = refl;
  no_text = λ i past. ap (λ o. find (codes "toString") (heap.props_of o)) (first_at i) ∙ by_first i (λ q. find (codes "toString") (heap.props_of q) ≡ None) refl (λ o is. is.no_text past);
  no_value = λ i past. ap (λ o. find (codes "valueOf") (heap.props_of o)) (first_at i) ∙ by_first i (λ q. find (codes "valueOf") (heap.props_of q) ≡ None) refl (λ o is. is.no_value past);
}
