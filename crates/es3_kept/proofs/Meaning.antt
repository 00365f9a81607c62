-- Tasks, programs and calls name live objects alone, and so does all that they leave (ES3 10.2.1, 13.2.1, 14).
use Rattle.std.proofs.Common.{ℕ, cond, false, List, [], ◌∷◌, None, All, is_some}
use Rattle.plans.specs.Plans.{ends}
use Rattle.es3_tree.specs.Tree as t
use Rattle.es3_objects.specs.declared.value.Value.{Value}
use Rattle.es3_objects.specs.declared.value.Value.TheVariants.{Undefined, Obj}
use Rattle.es3_heap.specs.Objects.{Objects, kept_attrs}
use Rattle.es3_heap.specs.Properties.{own, define}
use Rattle.es3_language.specs.declared.Touch.TheVariants as touch
use Rattle.es3_language.specs.Natives.{Reply, value_reply, throw_reply, invoke_reply, stop_reply, Table}
use Rattle.es3_language.specs.Store.{Store, with_heap, with_code}
use Rattle.es3_language.specs.Hoisting.{vars_of, functions_of, declared_name, code_of}
use Rattle.es3_language.specs.Meaning.{Env, Task, value_of, target_of, effect_of, again, next_key, native_call, apply, list, reply_plan, with_global_functions, with_global_vars, outermost, program_plan, run_program, call_plan, run_call}
use Rattle.es3_live.specs.Live.{IsLive}
use Rattle.es3_live.specs.Runs.{LiveStore, LiveEnv, LiveTask}
use Rattle.es3_live.specs.Keeps.{LiveReply, KeepsLive}
use Rattle.es3_kept.specs.Kept.{KeptRun}
use Rattle.es3_live.proofs.Growth.{later_refl}
use Rattle.es3_kept.proofs.Next.{Next, same_store}
use Rattle.es3_kept.proofs.Plans.{LivePlan, LiveMeaning, earlier, run_live}
use Rattle.es3_kept.proofs.Parts.{either}
use Rattle.es3_live.proofs.Writing.{define_grown}
use Rattle.es3_kept.proofs.Stores.{count, next_trans, with_heap_live, with_code_live, code_there}
use Rattle.es3_kept.proofs.Going.{passes, env_later, note_call_live}
use Rattle.es3_kept.proofs.Lists.{list_live}
use Rattle.es3_kept.proofs.Calls.{apply_live}
use Rattle.es3_kept.proofs.Expressions.{expr_live, target_live}
use Rattle.es3_kept.proofs.Loops.{key_live}
use Rattle.es3_kept.proofs.Statements.{stmt_live, again_live}

-- natives

reply_live : (r : Reply) (env : Env) (s : Store) → LiveStore s → LiveReply (count s) r → LiveEnv (count s) env → LivePlan s.heap (reply_plan r env s)
reply_live (value_reply v) env s l a w = (a, same_store s l)
reply_live (throw_reply v) env s l a w = (a, same_store s l)
reply_live (invoke_reply recorded f this vs) env s l a w =
    let p = apply_live f this vs env s l a.0 a.1 a.2 w in
    either (LivePlan s.heap) recorded _ (apply f this vs env s) (note_call_live s.heap touch.Call f env s (apply f this vs env s) p) p
reply_live (stop_reply f) env s l a w = same_store s l

module _ {S : Type 0} {fits : S → Objects → Type 0} {T : Table S} (keeps : KeepsLive fits T) where
  native_meaning : (w : ℕ) (this : Value) (vs : List Value) (env : Env) (s : Store) (z : S) → LiveStore s → LiveTask (count s) (native_call w this vs env) → fits z s.heap → LiveMeaning fits T (native_call w this vs env) s z
  native_meaning w this vs env s z l a f =
      let turn = T.answer w env.by this vs s.heap z in
      let after = keeps.called w env.by this vs s.heap z f l.heap a.0 a.1 in
      let n = with_heap_live s turn.heap l (record { closed = after.closed; later = after.later }) in
      record {
        heap = turn.heap;
        later = after.later;
        plan = reply_live turn.reply env (with_heap s turn.heap) n.store after.answer (env_later env n a.2);
        kept = after.kept;
      }

  pub task_meaning : (t : Task) (s : Store) (z : S) → LiveStore s → LiveTask (count s) t → fits z s.heap → LiveMeaning fits T t s z
  task_meaning (value_of e env) s z l a f = record { heap = s.heap; later = later_refl s.heap; plan = expr_live e env s l a; kept = f }
  task_meaning (target_of e env) s z l a f = record { heap = s.heap; later = later_refl s.heap; plan = target_live e env s l a; kept = f }
  task_meaning (effect_of x ls env) s z l a f = record { heap = s.heap; later = later_refl s.heap; plan = stmt_live x ls env s l a; kept = f }
  task_meaning (again k acc ls env) s z l a f = record { heap = s.heap; later = later_refl s.heap; plan = again_live k.update k.test k acc ls env s l a.0 a.1; kept = f }
  task_meaning (next_key o k ks x b acc ls env) s z l a f = record { heap = s.heap; later = later_refl s.heap; plan = key_live o k ks x b acc ls env s l a.0 a.1 a.2; kept = f }
  task_meaning (native_call w this vs env) s z l a f = native_meaning w this vs env s z l a f

-- programs (10.1.3, 10.2.1)

global_functions_live : (fs : List (t.Tree t.func)) (by : ℕ) (s : Store) → LiveStore s → Next s.heap (with_global_functions fs by s)
global_functions_live [] by s l = same_store s l
global_functions_live (f ∷ fs) by s l =
    let c = code_of f [] in
    let made = with_code c by s in
    let n = with_code_live c by s l in
    let h = define made.heap made.globals (declared_name f) (Obj (count s)) kept_attrs in
    let m = with_heap_live made h n.store (define_grown made.heap made.globals (declared_name f) (Obj (count s)) kept_attrs n.store.heap (code_there c by s l)) in
    next_trans n (next_trans m (global_functions_live fs by (with_heap made h) m.store))

global_vars_live : (xs : List (List ℕ)) (s : Store) → LiveStore s → Next s.heap (with_global_vars xs s)
global_vars_live [] s l = same_store s l
global_vars_live (x ∷ xs) s l =
    let h = define s.heap s.globals x Undefined kept_attrs in
    let after = cond (is_some (own s.heap s.globals x)) s (with_heap s h) in
    let n : Next s.heap after = either (Next s.heap) (is_some (own s.heap s.globals x)) s (with_heap s h) (same_store s l) (with_heap_live s h l (define_grown s.heap s.globals x Undefined kept_attrs l.heap tt)) in
    next_trans n (global_vars_live xs after n.store)

program_live : (p : t.Tree t.program) (by : ℕ) (s : Store) → LiveStore s → LivePlan s.heap (program_plan p by s)
program_live (t.script body) by s l =
    let n = global_functions_live (functions_of body) by s l in
    let declared = with_global_functions (functions_of body) by s in
    let m = global_vars_live (vars_of body) declared n.store in
    let ready = with_global_vars (vars_of body) declared in
    let both = next_trans n m in
    let env = outermost by s in
    earlier (list false body None env ready ends) both.later (list_live false body None env ready ends both.store tt (env_later env both l.globals) (passes ready.heap))

module _ {S : Type 0} {fits : S → Objects → Type 0} {T : Table S} (keeps : KeepsLive fits T) where
  pub program_kept : (p : t.Tree t.program) (by : ℕ) (s : Store) (z : S) (n : ℕ) → LiveStore s → fits z s.heap → KeptRun fits s.heap (run_program T p by s z n)
  program_kept p by s z n l f = run_live keeps (task_meaning keeps) n (program_plan p by s) s.heap z (program_live p by s l) f

  pub call_kept : (f this : Value) (vs : List Value) (by : ℕ) (s : Store) (z : S) (n : ℕ) → LiveStore s → IsLive (count s) f → IsLive (count s) this → All (IsLive (count s)) vs → fits z s.heap → KeptRun fits s.heap (run_call T f this vs by s z n)
  call_kept f this vs by s z n l a b d k = run_live keeps (task_meaning keeps) n (call_plan f this vs by s) s.heap z (apply_live f this vs (outermost by s) s l a b d l.globals) k
