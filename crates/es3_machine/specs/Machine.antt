-- What is started on a machine, and what a run of it comes to.
use Rattle.std.specs.Prelude.{◌≡◌, ℕ, ◌+◌, List, Option, Some, None, Result, Ok, Err}
use Rattle.plans.specs.Plans.{number_fault, depth_fault, convert_fault, over, stopped, out}
use Rattle.es3_tree.specs.Tree as t
use Rattle.es3_objects.specs.declared.value.Value.{Value}
use Rattle.es3_objects.specs.declared.value.Value.TheVariants.{Undefined}
use Rattle.es3_objects.specs.declared.value.Stop.{Stop}
use Rattle.es3_objects.specs.declared.value.Stop.TheVariants.{Number, Depth, Convert, Steps, Memory}
use Rattle.es3_language.specs.Store.{Store}
use Rattle.es3_language.specs.Natives.{Table}
use Rattle.es3_language.specs.Meaning.{Completion as PlainCompletion, gave, found, normal, broke, continued, returned, threw, Run, run_program, run_call}
use Rattle.es3_moves.specs.declared.natives.Completion.{Completion}
use Rattle.es3_moves.specs.declared.natives.Completion.TheVariants.{Normal, Thrown}

abbrev pub value_or_undefined : Option Value → Completion
value_or_undefined None = Normal Undefined
value_or_undefined (Some v) = Normal v

-- 14: what a program or a call came to, by how it ended; one without a value gives undefined. In a text whose jumps have targets no jump gets here
abbrev pub completed : PlainCompletion → Completion
completed (gave v) = Normal v
completed (found r) = Normal Undefined
completed (normal v) = value_or_undefined v
completed (broke l v) = value_or_undefined v
completed (continued l v) = value_or_undefined v
completed (returned v) = Normal v
completed (threw v) = Thrown v

-- what is started: a program as a module (14), or a call from outside: the function, the receiver, the arguments, the running module
pub data Started : Type 0 where
  a_program : t.Tree t.program → ℕ → Started
  a_call : Value → Value → List Value → ℕ → Started

-- a run of what was started with so many steps
abbrev pub run_started : {S : Type 0} → Table S → Option Started → Store → S → ℕ → Run S
run_started T None s z n = over (normal None) s z n
run_started T (Some (a_program p by)) s z n = run_program T p by s z n
run_started T (Some (a_call f this vs by)) s z n = run_call T f this vs by s z n

-- a run that is over after so many steps, with what it came to, and the store and what natives keep at its end
pub record Completes {S : Type 0} (r : Run S) (steps : ℕ) (s : Store) (z : S) (c : Completion) (taken : ℕ) : Type 0 where
  pub how : PlainCompletion
  pub left : ℕ
  pub run : r ≡ over how s z left
  pub came_to : completed how ≡ c
  pub count : taken + left ≡ steps

-- an answer tells what the run comes to; want of memory says nothing
abbrev pub Ran : {S : Type 0} → Result (Completion × ℕ) Stop → Run S → ℕ → Store → S → Type 0
Ran (Ok (c, taken)) r steps s z = Completes r steps s z c taken
Ran (Err Number) r steps s z = (left : ℕ) × (r ≡ stopped number_fault s z left)
Ran (Err Depth) r steps s z = (left : ℕ) × (r ≡ stopped depth_fault s z left)
Ran (Err Convert) r steps s z = (left : ℕ) × (r ≡ stopped convert_fault s z left)
Ran (Err Steps) r steps s z = r ≡ out s z 0
Ran (Err Memory) r steps s z = Unit {0}
