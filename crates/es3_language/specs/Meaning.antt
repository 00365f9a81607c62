-- What an ES3 text does (10 to 14): the plan of each task, and what a program comes to. Each form is a plan; steps, faults and what natives keep
-- are the interpreter's.
use Rattle.std.specs.Prelude.{ℕ, false, List, [], ◌∷◌, None, is_some, length, if◌then◌else◌}
use Rattle.plans.specs.Plans.{ends, stops, Language, run}
use Rattle.es3_tree.specs.Tree as t
use Rattle.es3_objects.specs.declared.value.Value.{Value}
use Rattle.es3_objects.specs.declared.value.Value.TheVariants.{Undefined, Obj}
use Rattle.es3_heap.specs.Objects.{kept_attrs}
use Rattle.es3_heap.specs.Properties.{own, define}
use Rattle.es3_language.specs.Store.{Store, with_heap, with_code}
use Rattle.es3_language.specs.Hoisting.{vars_of, functions_of, declared_name, code_of}
use Rattle.es3_language.specs.Natives.{Touched, Reply, value_reply, throw_reply, invoke_reply, stop_reply, Table}
use Rattle.es3_language.specs.declared.Touch.TheVariants as touch
pub use Rattle.es3_language.specs.Arguments.{is_arguments}
pub use Rattle.es3_language.specs.Tasks.{Completion, gave, found, normal, broke, continued, returned, threw, Env, Loop, Task, value_of, target_of, effect_of, again, next_key, native_call, Plan, Run, on_value_of, on_target_of, with_value, with_target, give, throw_error, with_given}
pub use Rattle.es3_language.specs.Lists.{later, kept_value, on_each, list, list_rest}
pub use Rattle.es3_language.specs.Expressions.{note_of, note_member, callee_tag, note_call, with_read, read_plan, found_plan, on_member, dot_value, dot_target, name_value_plan, function_plan, entered, body_end, this_of, open_code, apply, construct, Callee, called, maker, call_value, do_call, arguments, after_argument, after_callee, after_maker, items, after_item, expr_plan, target_plan}
pub use Rattle.es3_language.specs.Statements.{to_normal, to_returned, to_threw, var_list, var_items, stmt_plan, again_plan, key_plan}

-- natives

abbrev pub reply_plan : Reply → Env → Store → Plan
reply_plan (value_reply v) env s = ends (gave v) s
reply_plan (throw_reply v) env s = ends (threw v) s
reply_plan (invoke_reply recorded f this vs) env s = if recorded then note_call touch.Call f env s (apply f this vs env s) else apply f this vs env s
reply_plan (stop_reply f) env s = stops f s

-- the language

abbrev pub task_plan : {S : Type 0} → Table S → Task → Store → S → Plan
task_plan T (value_of e env) s z = expr_plan e env s
task_plan T (target_of e env) s z = target_plan e env s
task_plan T (effect_of x ls env) s z = stmt_plan x ls env s
task_plan T (again l acc ls env) s z = again_plan l acc ls env s
task_plan T (next_key o k ks x b acc ls env) s z = key_plan o k ks x b acc ls env s
task_plan T (native_call w this vs env) s z =
    let turn = T.answer w env.by this vs s.heap z in reply_plan turn.reply env (with_heap s turn.heap)

abbrev pub task_state : {S : Type 0} → Table S → Task → Store → S → S
task_state T (native_call w this vs env) s z = (T.answer w env.by this vs s.heap z).state
task_state T (value_of e env) s z = z
task_state T (target_of e env) s z = z
task_state T (effect_of x ls env) s z = z
task_state T (again l acc ls env) s z = z
task_state T (next_key o k ks x b acc ls env) s z = z

abbrev pub es3 : {S : Type 0} → Table S → Language Task Completion Store Touched S
es3 T = record { plan = task_plan T; kept = task_state T; note = T.touch }

-- programs

-- 10.1.3, 10.2.1: the functions that a program declares become names of the global object, and so do the variables that are none yet
abbrev pub with_global_functions : List (t.Tree t.func) → ℕ → Store → Store
with_global_functions [] by s = s
with_global_functions (f ∷ fs) by s =
    let n = with_code (code_of f []) by s in
    with_global_functions fs by (with_heap n (define n.heap n.globals (declared_name f) (Obj (length s.heap.list)) kept_attrs))

abbrev pub with_global_vars : List (List ℕ) → Store → Store
with_global_vars [] s = s
with_global_vars (x ∷ xs) s =
    with_global_vars xs (if is_some (own s.heap s.globals x) then s else with_heap s (define s.heap s.globals x Undefined kept_attrs))

-- 10.2.1: where the elements of a program stand
abbrev pub outermost : ℕ → Store → Env
outermost by s = record { chain = []; calls = 0; by = by; this = s.globals }

-- 14: a program of a module
abbrev pub program_plan : t.Tree t.program → ℕ → Store → Plan
program_plan (t.script body) by s =
    list false body None (outermost by s) (with_global_vars (vars_of body) (with_global_functions (functions_of body) by s)) ends

-- a program with n steps
abbrev pub run_program : {S : Type 0} → Table S → t.Tree t.program → ℕ → Store → S → ℕ → Run S
run_program T p by s z n = run (es3 T) n (program_plan p by s) z

-- a call from outside, of which nothing is recorded, with n steps
abbrev pub call_plan : Value → Value → List Value → ℕ → Store → Plan
call_plan f this vs by s = apply f this vs (outermost by s) s

abbrev pub run_call : {S : Type 0} → Table S → Value → Value → List Value → ℕ → Store → S → ℕ → Run S
run_call T f this vs by s z n = run (es3 T) n (call_plan f this vs by s) z
