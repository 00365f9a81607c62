-- The first node of a later turn of a loop (ES3 12.6).
use Rattle.std.specs.Prelude.{◌≡◌, []}
use Rattle.plans.specs.Plans.{bind}
use Rattle.es3_language.specs.Store.{Store}
use Rattle.es3_language.specs.Tasks.{Plan}
use Rattle.es3_language.specs.Expressions.{expr_plan}
use Rattle.es3_language.specs.Statements as st
use Rattle.es3_moves.specs.Code.{plain_expr, plain_stmt}
use Rattle.es3_moves.specs.Where.{plain_env, plain_labels, plain_loop}
use Rattle.es3_moves.specs.Moves.{resume}
use Rattle.es3_moves.specs.declared.frame.Looping.{Looping}
use Rattle.es3_moves.specs.declared.frame.Task.{Task}
use Rattle.es3_moves.specs.declared.frame.Task.TheVariants as task
use Rattle.es3_moves.specs.declared.frame.Frame.{Frame}
use Rattle.es3_moves.specs.declared.frame.Move.{Move}
use Rattle.es3_moves.specs.declared.frame.Move.TheVariants as move

-- what a later turn of a loop does
abbrev pub again_of : Looping → Store → Plan
again_of l s = st.again_plan (plain_loop l) l.acc (plain_labels l.labels.value) (plain_env l.env) s

-- a later turn does what a node does, and then what a frame does
abbrev pub BeginsTurn : Looping → Task → Frame → Type 0
BeginsTurn l (task.Value x env) f = (s : Store) → again_of l s ≡ bind (expr_plan (plain_expr x.value) (plain_env env) s) (resume f)
BeginsTurn l (task.Effect x env) f = (s : Store) → again_of l s ≡ bind (st.stmt_plan (plain_stmt x.value) [] (plain_env env) s) (resume f)
BeginsTurn l t f = ⊥

abbrev pub IsFirst : Looping → Move → Type 0
IsFirst l (move.Enter t f) = BeginsTurn l t f
IsFirst l m = ⊥
