-- The store with the functions that a body declares: as entry makes them, and when `func` has marked and named each of them.
use Rattle.std.proofs.Common.{◌≡◌, ℕ, zero, suc, ◌<◌, true, false, List, [], ◌∷◌, ◌++◌, Some, None, length, refl, sym, ap, ◌∙◌, arith}
use Rattle.std.specs.Prelude.{codes, pos, slice_get, slice_set}
use Rattle.std.proofs.Math.Seq.{set-append_seam}
use Rattle.std.proofs.lemmas.List.{length-set, set-append_left}
use Rattle.es3_objects.specs.declared.value.Value as es_value
use Rattle.es3_objects.specs.declared.value.Value.TheVariants as es
use Rattle.es3_objects.specs.declared.value.Class.{Class}
use Rattle.es3_heap.specs.Objects.{Object, Objects, fixed_attrs, hidden_attrs, kept_attrs, object_at, class_of, with_object, replaced}
use Rattle.es3_heap.specs.Properties.{length_key}
use Rattle.es3_objects.specs.Reading.{property}
use Rattle.es3_heap.specs.Making.{count_at, raised, named}
use Rattle.es3_language.specs.Store as store
use Rattle.es3_language.specs.Store.{Store, Code, Names, Owner, with_heap, with_name, with_slot, with_scope, with_code, new_function}
use Rattle.es3_language.specs.Hoisting.{code_of, declared_name}
use Rattle.es3_language.specs.Expressions.{with_functions}
use Rattle.es3_language.specs.Meaning as Target
use Rattle.cajita_tree.specs.Tree as c
use Rattle.cajita_rewrite.specs.Rewrite.{rewritten}
use Rattle.cajita_meaning.specs.Asking.{func_name}
use Rattle.heap_rows.specs.Marks.{marked, simple_mark, frozen_mark}
use Rattle.heap_rows.specs.Doing.{Done, gives}
use Rattle.heap_rows.specs.Opening.{runtime_id}
use Rattle.guard_runtime.specs.Guards.{func, func_of}
use Rattle.page_natives.specs.Natives.{Kept, page_table}
use Rattle.cajita_simulation.proofs.Heaps.Lists.{slice_get-push, slice_get-push-other, slice_get-set}
use Rattle.cajita_simulation.proofs.Heaps.Made.{with_properties, tagged, next_name, with_named}
use Rattle.cajita_simulation.proofs.Heaps.Grown.{length-grown, grown_last, grown_kept}
use Rattle.cajita_simulation.proofs.Heaps.Functions.{function_object, prototype_object, function_new, marked_object}
use Rattle.cajita_simulation.proofs.Declaring.Trees.{func_list}
use Rattle.cajita_simulation.proofs.Closures.{marked_heap, closed_store}

-- the functions that entry makes

abbrev pub declared_code : c.Tree c.func → List ℕ → Code
declared_code f chain = code_of (rewritten false c.func 0 f) chain

abbrev pub all_codes : c.Tree c.funcs → List ℕ → List Code → List Code
all_codes c.no_funcs chain codes = codes
all_codes (c.more_funcs f fs) chain codes = all_codes fs chain (codes ++ declared_code f chain ∷ [])

-- their objects, behind others: those that `func` hasn't seen, and those that it has marked and named
abbrev pub bare_heap : c.Tree c.funcs → List ℕ → ℕ → List Code → Objects → Objects
bare_heap c.no_funcs chain by codes h = h
bare_heap (c.more_funcs f fs) chain by codes h = bare_heap fs chain by (codes ++ declared_code f chain ∷ []) (new_function (length codes) (length (declared_code f chain).params) by h)

abbrev pub named_heap : c.Tree c.funcs → List ℕ → ℕ → List Code → Objects → Objects
named_heap c.no_funcs chain by codes h = h
named_heap (c.more_funcs f fs) chain by codes h = named_heap fs chain by (codes ++ declared_code f chain ∷ []) (marked_heap (length codes) (length (declared_code f chain).params) by h)

abbrev pub bare_store : c.Tree c.funcs → List ℕ → ℕ → Store → Store
bare_store fs chain by s = record s { heap = bare_heap fs chain by s.codes s.heap; codes = all_codes fs chain s.codes }

abbrev pub named_store : c.Tree c.funcs → List ℕ → ℕ → Store → Store
named_store fs chain by s = record s { heap = named_heap fs chain by s.codes s.heap; codes = all_codes fs chain s.codes }

-- each has its name in the scope; its object stands two places behind the one before
abbrev pub bound_names : c.Tree c.funcs → ℕ → Names → Names
bound_names c.no_funcs place names = names
bound_names (c.more_funcs f fs) place names = bound_names fs (suc (suc place)) (with_name (func_name f) (es.Obj place) names)

pub name_is : (f : c.Tree c.func) → declared_name (rewritten false c.func 0 f) ≡ func_name f
unfolding rewritten
name_is (c.fun None params args body) = refl
name_is (c.fun (Some x) params args body) = refl

pub length-made : (code params by : ℕ) (h : Objects) → length (new_function code params by h).list ≡ suc (suc (length h.list))
length-made code params by h =
    let f = function_object code params by (suc (length h.list)) in
    ap (λ (g : Objects). length g.list) (function_new code params by h) ∙ length-grown (with_object h f) (prototype_object (length h.list)) h.counts ∙ ap suc (length-grown h f h.counts)

pub length-marked : (code params by : ℕ) (h : Objects) → length (marked_heap code params by h).list ≡ suc (suc (length h.list))
length-marked code params by h =
    let f = with_named h (marked_object code params by (suc (length h.list))) by in
    length-grown f (prototype_object (length h.list)) f.counts ∙ ap suc (length-grown h (tagged (marked_object code params by (suc (length h.list))) (next_name h by)) f.counts)

slot_last : (owner : Owner) (names : Names) (x : List ℕ) (v : es_value.Value) (s : Store) → with_slot (length s.scopes) x v (with_scope owner names s) ≡ with_scope owner (with_name x v names) s
slot_last owner names x v s =
    let scope : store.Scope = record { owner = owner; names = names } in
    rw (slice_get-push s.scopes scope) (ap (λ (l : List store.Scope). let q : Store = record s { scopes = l } in q) (set-append_seam s.scopes scope [] (record { owner = owner; names = with_name x v names })))

-- it is as if they were made before the scope
pub functions_first : (fs : c.Tree c.funcs) (owner : Owner) (names : Names) (chain : List ℕ) (by : ℕ) (s : Store) → with_functions (func_list fs) (length s.scopes) chain by (with_scope owner names s) ≡ with_scope owner (bound_names fs (length s.heap.list) names) (bare_store fs chain by s)
functions_first c.no_funcs owner names chain by s = refl
functions_first (c.more_funcs f fs) owner names chain by s =
    let s1 = with_code (declared_code f chain) by s in
    let place = es.Obj (length s.heap.list) in
    ap (λ q. with_functions (func_list fs) (length s.scopes) chain by q) (slot_last owner names (declared_name (rewritten false c.func 0 f)) place s1)
    ∙ functions_first fs owner (with_name (declared_name (rewritten false c.func 0 f)) place names) chain by s1
    ∙ ap (λ (l : ℕ). with_scope owner (bound_names fs l (with_name (declared_name (rewritten false c.func 0 f)) place names)) (bare_store fs chain by s1)) (length-made (length s.codes) (length (declared_code f chain).params) by s.heap)
    ∙ ap (λ x. with_scope owner (bound_names fs (suc (suc (length s.heap.list))) (with_name x place names)) (bare_store fs chain by s1)) (name_is f)

-- a function without a name gets its marks and its name, wherever it stands

-- another object at a place, with the next name of a module
abbrev pub named_at : Objects → ℕ → Object → ℕ → Objects
named_at h i o m = record { list = slice_set h.list i (tagged o (next_name h m)); counts = slice_set h.counts m (raised (count_at (slice_get h.counts m))) }

-- the last write to a place counts
set_twice : {X : Type 0} (xs : List X) (i : ℕ) (a b : X) → slice_set (slice_set xs i a) i b ≡ slice_set xs i b
set_twice [] i a b = refl
set_twice (x ∷ xs) zero a b = refl
set_twice (x ∷ xs) (suc i) a b = ap (λ l. x ∷ l) (set_twice xs i a b)

replaced_twice : (h : Objects) (i : ℕ) (a b : Object) → replaced (replaced h i a) i b ≡ replaced h i b
replaced_twice h i a b = ap (λ list. let g : Objects = record { list = list; counts = h.counts } in g) (set_twice h.list i a b)

marked_at : (code params maker proto m i : ℕ) (h : Objects) → object_at h i ≡ Some (function_object code params maker proto) → named (marked (marked h i simple_mark) i frozen_mark) i m ≡ named_at h i (marked_object code params maker proto) m
marked_at code params maker proto m i h there =
    let o = function_object code params maker proto in
    let one = with_properties o (property length_key (es.Num (pos params)) fixed_attrs ∷ property (codes "prototype") (es.Obj proto) kept_attrs ∷ property simple_mark (es.Bool true) hidden_attrs ∷ []) in
    let two = marked_object code params maker proto in
    let first : marked h i simple_mark ≡ replaced h i one = rw there refl in
    let at_one : object_at (replaced h i one) i ≡ Some one = slice_get-set h.list i o one there in
    let second : marked (replaced h i one) i frozen_mark ≡ replaced (replaced h i one) i two = rw at_one refl in
    let both : marked (marked h i simple_mark) i frozen_mark ≡ replaced h i two = ap (λ g. marked g i frozen_mark) first ∙ second ∙ replaced_twice h i one two in
    let at_two : object_at (replaced h i two) i ≡ Some two = slice_get-set h.list i o two there in
    let last : named (replaced h i two) i m ≡ named_at (replaced h i two) i two m = rw at_two refl in
    ap (λ g. named g i m) both ∙ last ∙ ap (λ list. let g : Objects = record { list = list; counts = slice_set h.counts m (raised (count_at (slice_get h.counts m))) } in g) (set_twice h.list i two (tagged two (next_name h m)))

-- the guard's row
pub func_at : (code params proto i : ℕ) (env : Target.Env) (s : Store) (y : Kept) → object_at s.heap i ≡ Some (function_object code params env.by proto) → Target.task_plan page_table (Target.native_call 66 (es.Obj runtime_id) (es.Obj i ∷ []) env) s y ≡ Target.give (es.Obj i) (with_heap s (named_at s.heap i (marked_object code params env.by proto) env.by))
func_at code params proto i env s y there =
    let is : func env.by (es.Obj i) s.heap ≡ gives (es.Obj i) (named_at s.heap i (marked_object code params env.by proto) env.by) [] = ap (λ (q : Class). func_of q env.by i s.heap) (ap class_of there) ∙ ap (λ (g : Objects). gives (es.Obj i) g []) (marked_at code params env.by proto env.by i s.heap there) in
    ap (λ (d : Done). Target.reply_plan d.reply env (with_heap s d.heap)) is

-- the first of some functions is the object behind those that there were

added_at : (h : Objects) (x o : Object) (i m : ℕ) → i < length h.list → named_at (with_object h x) i o m ≡ with_object (named_at h i o m) x
added_at h x o i m lt = ap (λ list. let g : Objects = record { list = list; counts = slice_set h.counts m (raised (count_at (slice_get h.counts m))) } in g) (set-append_left h.list (x ∷ []) i (tagged o (next_name h m)) lt)

-- naming one before another is made is the same as naming it afterwards
made_after : (code params by : ℕ) (o : Object) (i m : ℕ) (h : Objects) → i < length h.list → named_at (new_function code params by h) i o m ≡ new_function code params by (named_at h i o m)
made_after code params by o i m h lt =
    let n = length h.list in
    let f = function_object code params by (suc n) in
    let long : length (named_at h i o m).list ≡ n = length-set h.list i (tagged o (next_name h m)) in
    ap (λ g. named_at g i o m) (function_new code params by h)
    ∙ added_at (with_object h f) (prototype_object n) o i m (let l = length-grown h f h.counts in omega (arith, lt, l))
    ∙ ap (λ g. with_object g (prototype_object n)) (added_at h f o i m lt)
    ∙ ap (λ (l : ℕ). with_object (with_object (named_at h i o m) (function_object code params by (suc l))) (prototype_object l)) (sym long)
    ∙ sym (function_new code params by (named_at h i o m))

all_after : (fs : c.Tree c.funcs) (chain : List ℕ) (by : ℕ) (codes : List Code) (o : Object) (i m : ℕ) (h : Objects) → i < length h.list → named_at (bare_heap fs chain by codes h) i o m ≡ bare_heap fs chain by codes (named_at h i o m)
all_after c.no_funcs chain by codes o i m h lt = refl
all_after (c.more_funcs f fs) chain by codes o i m h lt =
    let params = length (declared_code f chain).params in
    all_after fs chain by (codes ++ declared_code f chain ∷ []) o i m (new_function (length codes) params by h) (let l = length-made (length codes) params by h in omega (arith, lt, l))
    ∙ ap (λ g. bare_heap fs chain by (codes ++ declared_code f chain ∷ []) g) (made_after (length codes) params by o i m h lt)

first_named : (code params by : ℕ) (h : Objects) → named_at (new_function code params by h) (length h.list) (marked_object code params by (suc (length h.list))) by ≡ marked_heap code params by h
first_named code params by h =
    let n = length h.list in
    let f = function_object code params by (suc n) in
    let x = marked_object code params by (suc n) in
    ap (λ g. named_at g n x by) (function_new code params by h)
    ∙ added_at (with_object h f) (prototype_object n) x n by (let l = length-grown h f h.counts in omega (arith, l))
    ∙ ap (λ g. with_object g (prototype_object n)) (ap (λ list. let g : Objects = record { list = list; counts = slice_set h.counts by (raised (count_at (slice_get h.counts by))) } in g) (set-append_seam h.list f [] (tagged x (next_name h by))))

-- what was there stays while others are made
made_before : (code params by : ℕ) (h : Objects) (i : ℕ) → i < length h.list → object_at (new_function code params by h) i ≡ object_at h i
made_before code params by h i lt =
    let x = function_object code params by (suc (length h.list)) in
    let l = length-grown h x h.counts in
    ap (λ g. object_at g i) (function_new code params by h) ∙ slice_get-push-other (with_object h x).list i (prototype_object (length h.list)) (omega (arith, lt, l)) ∙ slice_get-push-other h.list i x lt

pub bare_before : (fs : c.Tree c.funcs) (chain : List ℕ) (by : ℕ) (codes : List Code) (h : Objects) (i : ℕ) → i < length h.list → object_at (bare_heap fs chain by codes h) i ≡ object_at h i
bare_before c.no_funcs chain by codes h i lt = refl
bare_before (c.more_funcs f fs) chain by codes h i lt =
    let params = length (declared_code f chain).params in
    let l = length-made (length codes) params by h in
    bare_before fs chain by (codes ++ declared_code f chain ∷ []) (new_function (length codes) params by h) i (omega (arith, lt, l)) ∙ made_before (length codes) params by h i lt

module _ (f : c.Tree c.func) (fs : c.Tree c.funcs) (chain : List ℕ) (by : ℕ) (s : Store) where
  abbrev pub first_object : Object
  first_object = function_object (length s.codes) (length (declared_code f chain).params) by (suc (length s.heap.list))

  abbrev pub first_marked : Object
  first_marked = marked_object (length s.codes) (length (declared_code f chain).params) by (suc (length s.heap.list))

  pub first_there : object_at (bare_store (c.more_funcs f fs) chain by s).heap (length s.heap.list) ≡ Some first_object
  first_there =
      let h = s.heap in
      let params = length (declared_code f chain).params in
      let l = length-made (length s.codes) params by h in
      bare_before fs chain by (s.codes ++ declared_code f chain ∷ []) (new_function (length s.codes) params by h) (length h.list) (omega (arith, l))
      ∙ ap (λ g. object_at g (length h.list)) (function_new (length s.codes) params by h) ∙ grown_kept (with_object h first_object) (prototype_object (length h.list)) h.counts (length h.list) first_object (grown_last h first_object h.counts)

  -- the mark of the first of them
  pub first_mark : with_heap (bare_store (c.more_funcs f fs) chain by s) (named_at (bare_store (c.more_funcs f fs) chain by s).heap (length s.heap.list) first_marked by) ≡ bare_store fs chain by (closed_store (declared_code f chain) by s)
  first_mark =
      let h = s.heap in
      let n = length s.codes in
      let params = length (declared_code f chain).params in
      let after = s.codes ++ declared_code f chain ∷ [] in
      let l = length-made n params by h in
      ap (λ (g : Objects). let q : Store = record s { heap = g; codes = all_codes fs chain (s.codes ++ declared_code f chain ∷ []) } in q)
      (all_after fs chain by after first_marked (length h.list) by (new_function n params by h) (omega (arith, l)) ∙ ap (λ g. bare_heap fs chain by (s.codes ++ declared_code f chain ∷ []) g) (first_named n params by h))
