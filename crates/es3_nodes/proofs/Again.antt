-- A later turn of a loop does what its first node does, and then what follows that.
use Rattle.std.proofs.Common.{◌≡◌, refl}
use Rattle.plans.specs.Plans.{bind}
use Rattle.es3_language.specs.Store.{Store}
use Rattle.es3_language.specs.Natives.{Table}
use Rattle.es3_language.specs.Tasks.{again}
use Rattle.es3_language.specs.Meaning.{task_plan, task_state}
use Rattle.es3_moves.specs.Where.{plain_env, plain_labels, plain_loop}
use Rattle.es3_moves.specs.Moves.{resume, plain_task}
use Rattle.es3_moves.specs.declared.frame.Looping.{Looping}
use Rattle.es3_moves.specs.declared.frame.Task.{Task}
use Rattle.es3_moves.specs.declared.frame.Task.TheVariants as task
use Rattle.es3_moves.specs.declared.frame.Frame.{Frame}
use Rattle.es3_nodes.specs.Again.{BeginsTurn}

module _ {S : Type 0} (T : Table S) where
  pub turn_plan : (l : Looping) (t : Task) (f : Frame) → BeginsTurn l t f → (s : Store) (z : S) → task_plan T (again (plain_loop l) l.acc (plain_labels l.labels.value) (plain_env l.env)) s z ≡ bind (task_plan T (plain_task t) s z) (resume f)
  turn_plan l (task.Value x env) f h s z = h s
  turn_plan l (task.Effect x env) f h s z = h s
  turn_plan l (task.Reference x env) f h s z = absurd h
  turn_plan l (task.Labelled x ls env) f h s z = absurd h
  turn_plan l (task.Key k w) f h s z = absurd h
  turn_plan l (task.Native c) f h s z = absurd h

  pub turn_state : (l : Looping) (t : Task) (f : Frame) → BeginsTurn l t f → (s : Store) (z : S) → task_state T (plain_task t) s z ≡ z
  turn_state l (task.Value x env) f h s z = refl
  turn_state l (task.Effect x env) f h s z = refl
  turn_state l (task.Reference x env) f h s z = absurd h
  turn_state l (task.Labelled x ls env) f h s z = absurd h
  turn_state l (task.Key k w) f h s z = absurd h
  turn_state l (task.Native c) f h s z = absurd h
