-- The first move of a run is what was started.
use Rattle.std.proofs.Common.{◌≡◌, ℕ, ◌≤◌, List, [], Some, None, false, Result, Ok, Err, IfOk, OnOk, ap, ◌∙◌, Vec, Global}
use Rattle.plans.specs.Plans.{ends, run}
use Rattle.es3_tree.specs.Tree as t
use Rattle.caja_units.specs.declared.Memory.{Memory}
use Rattle.es3_objects.specs.declared.value.Value.{Value}
use Rattle.es3_language.specs.Store.{Store}
use Rattle.es3_language.specs.Hoisting.{vars_of, functions_of}
use Rattle.es3_language.specs.Natives.{Table}
use Rattle.es3_language.specs.Lists.{list}
use Rattle.es3_language.specs.Expressions.{apply}
use Rattle.es3_language.specs.Meaning as m
use Rattle.std.specs.declared.rc.Rc.{Rc}
use Rattle.es3_moves.specs.declared.code.StmtCode.{StmtCode}
use Rattle.es3_moves.specs.declared.frame.Env.{Env}
use Rattle.es3_moves.specs.declared.frame.End.TheVariants.{Program}
use Rattle.es3_moves.specs.declared.frame.Frame.{Frame}
use Rattle.es3_moves.specs.declared.frame.After.TheVariants as after
use Rattle.es3_moves.specs.declared.frame.Move.TheVariants as move
use Rattle.es3_moves.specs.Code.{plain_stmts}
use Rattle.es3_moves.specs.Where.{plain_env}
use Rattle.es3_machine.specs.Machine.{Started, run_started}
use Rattle.es3_machine.specs.Outcome.{whole, ended}
use Rattle.es3_machine.specs.declared.engine.Outcome.{Outcome}
use Rattle.es3_machine.proofs.Answers.{ended_count}

-- a program whose declarations are made
pub program_begins : {S : Type 0} (T : Table S) (fs : List Frame) (body : Rc (Vec (Rc StmtCode Global) Global) Global) (env : Env) (by : ℕ) (s s' : Store) (z : S) (n : ℕ) → fs ≡ [] → plain_env env ≡ m.outermost by s → s' ≡ m.with_global_vars (vars_of (plain_stmts body.value.items)) (m.with_global_functions (functions_of (plain_stmts body.value.items)) by s) → whole T fs (move.List body 0 None env Program) s' z n ≡ m.run_program T (t.script (plain_stmts body.value.items)) by s z n
program_begins T fs body env by s s' z n none place store =
    ap (λ l. whole T l (move.List body 0 None env Program) s' z n) none
    ∙ ap (λ x. run (m.es3 T) n (list false (plain_stmts body.value.items) None (plain_env env) x ends) z) store
    ∙ ap (λ e. run (m.es3 T) n (list false (plain_stmts body.value.items) None e (m.with_global_vars (vars_of (plain_stmts body.value.items)) (m.with_global_functions (functions_of (plain_stmts body.value.items)) by s)) ends) z) place

-- a call from outside
pub call_begins : {S : Type 0} (T : Table S) (fs : List Frame) (f this : Value) (vs : Vec Value Global) (env : Env) (by : ℕ) (s : Store) (z : S) (n : ℕ) → fs ≡ [] → plain_env env ≡ m.outermost by s → whole T fs (move.Follow (after.Apply f this vs env)) s z n ≡ m.run_call T f this vs.items by s z n
call_begins T fs f this vs env by s z n none place =
    ap (λ l. whole T l (move.Follow (after.Apply f this vs env)) s z n) none
    ∙ ap (λ e. run (m.es3 T) n (apply f this vs.items e s) z) place

-- no steps are won, where there is an outcome
pub started_count : {S : Type 0} (T : Table S) (x : Started) (s s' : Store) (z z' : S) (r : Result Outcome Memory) (n steps : ℕ) → IfOk r (λ o. ended o s' z' n ≡ run_started T (Some x) s z steps) → OnOk r (n ≤ steps)
started_count T x s s' z z' (Ok o) n steps e = ended_count T x s s' z z' o n steps e
started_count T x s s' z z' (Err e) n steps h = tt
