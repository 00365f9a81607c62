-- What the interpreter enters from the program of a module to the first statement of its function, whatever ran before.
use Rattle.std.proofs.Common.{◌≡◌, ℕ, zero, suc, ◌<◌, true, List, [], ◌∷◌, length, Option, Some, None, refl, sym, ap, ◌∙◌, subst, arith, lit<}
use Rattle.std.specs.Prelude.{codes}
use Rattle.plans.specs.Plans.{bind}
use Rattle.matching.specs.Sides.{Match}
use Rattle.matching.proofs.Rules.{right_enter}
use Rattle.es3_tree.specs.Tree as t
use Rattle.es3_objects.specs.declared.value.Value.TheVariants as es
use Rattle.es3_heap.specs.Objects.{Object, Objects, hidden_attrs, object_at, class_of, callable_of, with_object}
use Rattle.es3_heap.specs.Properties.{own, lookup, value_of, get}
use Rattle.es3_objects.specs.Reading.{property}
use Rattle.es3_language.specs.Store as store
use Rattle.es3_language.specs.Store.{Store, Code, activation, with_heap, with_code, first_names}
use Rattle.es3_language.specs.Hoisting.{code_of}
use Rattle.es3_language.specs.References.{member, named, global_name}
use Rattle.es3_language.specs.Expressions.{apply_callable}
use Rattle.es3_language.specs.Meaning as Target
use Rattle.cajita_tree.specs.Tree as c
use Rattle.rows.specs.Nodes.{Rules}
use Rattle.cajita_rewrite.specs.Rewrite.{runtime_name, imports_name, single, load_stmt, temps, declared, others, temp_items, name_items, head_items}
use Rattle.cajita_meaning.specs.Direct.{Item}
use Rattle.heap_rows.specs.Opening.{first, runtime_id, globals_id, load_module}
use Rattle.guard_runtime.specs.Guards.{load_by}
use Rattle.page_natives.specs.Natives.{Kept, imports_of, page_table}
use Rattle.row_simulation.specs.Correspond.{EsValue}
use Rattle.cajita_simulation.specs.Guest.{Names as KnownNames, Guest}
use Rattle.row_simulation.specs.Correspond as rows
use Rattle.std.proofs.lemmas.List.{length-append}
use Rattle.cajita_simulation.proofs.Entering.{two_keep, function_is_new, prototype_is_new}
use Rattle.cajita_simulation.proofs.Heaps.Lists.{slice_get-push, slice_get-push-other}
use Rattle.cajita_simulation.proofs.Heaps.Opened.{IsOpened, lookup_from-own}
use Rattle.cajita_simulation.specs.Related.{KnowsPage}
use Rattle.cajita_simulation.proofs.Heaps.Grown.{grown_last, grown_kept}
use Rattle.cajita_simulation.proofs.Heaps.Functions.{function_new, function_object, prototype_object, opened_kept-function}
use Rattle.cajita_simulation.proofs.Heaps.Guards.{load_module-guard, guard_call}
use Rattle.cajita_simulation.proofs.Doing as Source
use Rattle.cajita_simulation.proofs.Laws.{Cont', sides}
use Rattle.cajita_simulation.proofs.Declaring.Trees.{func_list}
use Rattle.cajita_simulation.proofs.Declaring.Stores.{bare_store, bare_before, bound_names, functions_first}
use Rattle.cajita_simulation.proofs.Load.Names.{Module, statements, module_body, module_vars, functions_are}
use Rattle.cajita_simulation.proofs.Relation.{Turn}

-- the function of the module
abbrev pub module_code : Module → Code
module_code q = record { params = runtime_name ∷ imports_name ∷ []; vars = module_vars q; functions = func_list q.funcs; body = module_body q; chain = [] }

pub code_is : (vs free : KnownNames) (q : Module) → Guest vs free c.stmts q.list → code_of (t.fun None (runtime_name ∷ imports_name ∷ []) (module_body q)) [] ≡ module_code q
code_is vs free q guest = ap code (functions_are vs free q guest)
  where
    code : List (t.Tree t.func) → Code
    code functions = record { params = runtime_name ∷ imports_name ∷ []; vars = module_vars q; functions = functions; body = module_body q; chain = [] }

abbrev pub first_values : Module → List EsValue
first_values q = es.Obj runtime_id ∷ es.Obj q.object ∷ []

-- the store with the function, with those that it declares, and then with its scope
abbrev pub made_store : ℕ → Module → Store → Store
made_store by q s = with_code (module_code q) by s

abbrev pub chain_of : Store → List ℕ
chain_of s = length s.scopes ∷ []

abbrev pub functions_store : ℕ → Module → Store → Store
functions_store by q s = bare_store q.funcs (length s.scopes ∷ []) by (made_store by q s)

abbrev pub owner_of : Module → Store → store.Owner
owner_of q s = activation (es.Obj (length s.heap.list)) (module_code q).params (first_values q)

-- where the first of its functions stands
abbrev pub place_first : ℕ → Module → Store → ℕ
place_first by q s = length (made_store by q s).heap.list

abbrev pub module_store : ℕ → Module → Store → Store
module_store by q s = store.with_scope (owner_of q s) (bound_names q.funcs (place_first by q s) (first_names (module_code q) (first_values q))) (functions_store by q s)

-- where its statements stand
abbrev pub inner : ℕ → Store → Target.Env
inner by s = record { chain = length s.scopes ∷ []; calls = 1; by = by; this = s.globals }

-- the name of the runtime's object is a global one

global_there : own first globals_id (codes "___") ≡ Some (property (codes "___") (es.Obj runtime_id) hidden_attrs)
unfolding first
global_there = refl

runtime_found : (h : Objects) → IsOpened h → lookup h globals_id (codes "___") ≡ Some (property (codes "___") (es.Obj runtime_id) hidden_attrs)
runtime_found h is =
    let there : own h globals_id (codes "___") ≡ Some (property (codes "___") (es.Obj runtime_id) hidden_attrs) = rw (is.first globals_id (lit< tt)) global_there in
    lookup_from-own (length h.list) h globals_id (codes "___") _ (omega (arith, is.large)) there

runtime_global : (by : ℕ) (s : Store) → IsOpened s.heap → s.globals ≡ globals_id → Target.name_value_plan runtime_name (Target.outermost by s) s ≡ Target.give (es.Obj runtime_id) s
runtime_global by s is global =
    let found : lookup s.heap s.globals (codes "___") ≡ Some (property (codes "___") (es.Obj runtime_id) hidden_attrs) = rw global (runtime_found s.heap is) in
    let ref : global_name s runtime_name ≡ named s.globals runtime_name = rw found refl in
    let got : get s.heap s.globals runtime_name ≡ es.Obj runtime_id = ap value_of found in
    ap (λ r. Target.read_plan (Target.outermost by s) r s) ref ∙ ap (λ v. Target.give v s) got

-- the function is behind the objects that there were
function_at : (by : ℕ) (q : Module) (s : Store) → object_at (made_store by q s).heap (length s.heap.list) ≡ Some (function_object (length s.codes) 2 by (suc (length s.heap.list)))
function_at by q s =
    let f = function_object (length s.codes) 2 by (suc (length s.heap.list)) in
    let g = with_object s.heap f in
    subst (λ h. object_at h (length s.heap.list) ≡ Some f) (sym (function_new (length s.codes) 2 by s.heap))
    (grown_kept g (prototype_object (length s.heap.list)) g.counts (length s.heap.list) f (grown_last s.heap f s.heap.counts))

-- an object that was there stays, and so do all names
pub function_before : (by : ℕ) (q : Module) (s : Store) (i : ℕ) → i < length s.heap.list → object_at (made_store by q s).heap i ≡ object_at s.heap i
function_before by q s i lt =
    let f = function_object (length s.codes) 2 by (suc (length s.heap.list)) in
    let g = with_object s.heap f in
    ap (λ h. object_at h i) (function_new (length s.codes) 2 by s.heap) ∙ slice_get-push-other g.list i (prototype_object (length s.heap.list)) (omega (arith, lt, length-append s.heap.list (f ∷ []))) ∙ slice_get-push-other s.heap.list i f lt

-- and so they stay when its own functions are made
pub functions_before : (by : ℕ) (q : Module) (s : Store) (i : ℕ) → i < length s.heap.list → object_at (functions_store by q s).heap i ≡ object_at s.heap i
functions_before by q s i lt =
    let l = ap (λ (g : Objects). length g.list) (function_new (length s.codes) 2 by s.heap) ∙ length-append (with_object s.heap (function_object (length s.codes) 2 by (suc (length s.heap.list)))).list (prototype_object (length s.heap.list) ∷ []) in
    let l1 = length-append s.heap.list (function_object (length s.codes) 2 by (suc (length s.heap.list)) ∷ []) in
    bare_before q.funcs (length s.scopes ∷ []) by (made_store by q s).codes (made_store by q s).heap i (omega (arith, lt, l, l1)) ∙ function_before by q s i lt

pub function_keeps : (by : ℕ) (q : Module) (s : Store) → rows.Keeps s.heap (made_store by q s).heap
function_keeps by q s = subst (λ h. rows.Keeps s.heap h) (sym (function_new (length s.codes) 2 by s.heap)) (two_keep s.heap (function_object (length s.codes) 2 by (suc (length s.heap.list))) (prototype_object (length s.heap.list)) (function_is_new (length s.codes) 2 by (suc (length s.heap.list))) (prototype_is_new (length s.heap.list)))

-- `loadModule` calls it, and keeps what was kept

abbrev load_task : ℕ → Store → Target.Task
load_task by s = Target.native_call load_module (es.Obj runtime_id) (es.Obj (length s.heap.list) ∷ []) (Target.outermost by s)

load_is : {rules : Rules} (by : ℕ) (q : Module) (s : Store) (y : Kept) → KnowsPage rules y → imports_of by y ≡ q.object → Target.task_plan page_table (load_task by s) (made_store by q s) y ≡ Target.list true (module_body q) None (inner by s) (module_store by q s) Target.body_end
load_is by q s y knows is =
    let made = made_store by q s in
    let f = length s.heap.list in
    let env = Target.outermost by s in
    let turn : ℕ → ℕ → Option Object → Target.Plan = λ a b o. let d = load_by (class_of o) a b by f made.heap in Target.reply_plan d.reply env (with_heap made d.heap) in
    let entered : (o : Option Object) → Target.Plan = λ o. apply_callable (callable_of o) (es.Obj f) es.Undefined (first_values q) env made in
    let opened : (o : Option Code) → Target.Plan = λ o. Target.open_code o by (es.Obj f) s.globals (first_values q) 0 made Target.body_end in
    let begun : Store → Target.Plan = λ s1. Target.list true (module_body q) None (inner by s) s1 Target.body_end in
    ap (λ a. turn a (imports_of by y) (object_at made.heap f)) knows.runtime ∙ ap (λ b. turn runtime_id b (object_at made.heap f)) is ∙ ap (turn runtime_id q.object) (function_at by q s) ∙ ap entered (function_at by q s) ∙ ap opened (slice_get-push s.codes (module_code q)) ∙ ap begun (functions_first q.funcs (owner_of q s) (first_names (module_code q) (first_values q)) (length s.scopes ∷ []) by made)

load_keeps : (by : ℕ) (q : Module) (s : Store) (y : Kept) → Target.task_state page_table (load_task by s) (made_store by q s) y ≡ y
load_keeps by q s y = refl

-- what goes on after the call of `loadModule`
abbrev pub after_load : Cont' → Cont'
after_load next' e s = bind (Target.on_value_of Target.to_normal e s) next'

called : (rules : Rules) (turn : Turn) {by d : ℕ} (q : Module) (s : Store) {p : Source.Plan} {z : List Item} {n : ℕ} {y : Kept} {m : ℕ} (next' : Cont') → KnowsPage rules y → imports_of by y ≡ q.object → IsOpened s.heap → Match (sides rules turn) d p z n (bind (Target.list true (module_body q) None (inner by s) (module_store by q s) Target.body_end) next') y (suc m) → Match (sides rules turn) d p z n (bind (Target.do_call (Target.called (member (es.Obj runtime_id) (codes "loadModule"))) (es.Obj (length s.heap.list) ∷ []) (Target.outermost by s) (made_store by q s)) next') y m
called rules turn {by = by} {d = d} q s {p = p} {z = z} {n = n} {y = y} {m = m} next' knows has is f =
    let made = made_store by q s in
    let vs : List EsValue = es.Obj (length s.heap.list) ∷ [] in
    subst (λ q. Match (sides rules turn) d p z n (bind q next') y m) (sym (guard_call (codes "loadModule") load_module load_module-guard vs (Target.outermost by s) made (opened_kept-function (length s.codes) 2 by s.heap is)))
    (right_enter
    (subst (λ o. Match (sides rules turn) d p z n (bind (Target.task_plan page_table (load_task by s) made y) next') o (suc m)) (sym (load_keeps by q s y))
    (subst (λ q. Match (sides rules turn) d p z n (bind q next') y (suc m)) (sym (load_is by q s y knows has)) f)))

-- the head has no values

temps_skipped : (i n : ℕ) (is : t.Tree t.items) (env : Target.Env) (s : Store) → Target.var_items (temp_items i n is) env s ≡ Target.var_items is env s
temps_skipped i zero is env s = refl
temps_skipped i (suc n) is env s = temps_skipped (suc i) n is env s

loops_skipped : (xs : List (List ℕ)) (env : Target.Env) (s : Store) → Target.var_items (name_items xs t.no_items) env s ≡ Target.var_items t.no_items env s
loops_skipped [] env s = refl
loops_skipped (x ∷ xs) env s = loops_skipped xs env s

head_match : (rules : Rules) (turn : Turn) {by d : ℕ} (q : Module) (s : Store) {p : Source.Plan} {z : List Item} {n : ℕ} {y : Kept} {m : ℕ} (next' : Cont') → Match (sides rules turn) d p z n (bind (Target.list true (statements q) None (inner by s) (module_store by q s) Target.body_end) next') y (suc m) → Match (sides rules turn) d p z n (bind (Target.list true (module_body q) None (inner by s) (module_store by q s) Target.body_end) next') y m
head_match rules turn {by = by} {d = d} q s {p = p} {z = z} {n = n} {y = y} {m = m} next' f =
    let names = others q.vars (declared c.stmts q.list) in
    let skipped : Target.var_items (head_items (c.a_body c.no_funcs q.vars q.list)) (inner by s) (module_store by q s) ≡ Target.var_items t.no_items (inner by s) (module_store by q s) =
    temps_skipped 0 (temps c.stmts q.list) (name_items names t.no_items) (inner by s) (module_store by q s) ∙ loops_skipped names (inner by s) (module_store by q s) in
    right_enter (subst (λ o. Match (sides rules turn) d p z n (bind o (λ e s1. bind (Target.list_rest true (statements q) None (inner by s) Target.body_end e s1) next')) y (suc m)) (sym skipped) f)

-- the call, the member, the name, the function, `loadModule` itself, and the head of the module's function
pub enters : (rules : Rules) (turn : Turn) {by d : ℕ} (vars free : KnownNames) (q : Module) (s : Store) {p : Source.Plan} {z : List Item} {n : ℕ} {y : Kept} {m : ℕ} (next' : Cont') → Guest vars free c.stmts q.list → KnowsPage rules y → imports_of by y ≡ q.object → IsOpened s.heap → s.globals ≡ globals_id
    → Match (sides rules turn) d p z n (bind (Target.list true (statements q) None (inner by s) (module_store by q s) Target.body_end) (after_load next')) y (suc (suc (suc (suc (suc (suc m))))))
    → Match (sides rules turn) d p z n (bind (Target.stmt_plan (load_stmt (module_body q)) [] (Target.outermost by s) s) next') y m
enters rules turn {by = by} {d = d} vars free q s {p = p} {z = z} {n = n} {y = y} {m = m} next' guest knows has is global f =
    let args = single (t.function (t.fun None (runtime_name ∷ imports_name ∷ []) (module_body q))) in
    right_enter (right_enter (right_enter
    (subst (λ q. Match (sides rules turn) d p z n (bind q (λ e s1. bind (Target.on_value_of (Target.dot_target (codes "loadModule")) e s1) (λ e1 s2. bind (Target.on_target_of (Target.after_callee args (Target.outermost by s)) e1 s2) (after_load next')))) y (suc (suc (suc m)))) (sym (runtime_global by s is global))
    (right_enter
    (subst (λ o. Match (sides rules turn) d p z n (bind (Target.do_call (Target.called (member (es.Obj runtime_id) (codes "loadModule"))) (es.Obj (length s.heap.list) ∷ []) (Target.outermost by s) (with_code o by s)) (after_load next')) y (suc (suc (suc (suc m))))) (sym (code_is vars free q guest))
    (called rules turn q s (after_load next') knows has is (head_match rules turn q s (after_load next') f)))))))
