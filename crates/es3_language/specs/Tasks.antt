-- How a node of a text ends (ES3 8.9), where it stands (10.2), what takes a step, and how a plan goes on from an ending.
use Rattle.std.specs.Prelude.{ℕ, List, Option, length, codes}
use Rattle.plans.specs.Plans.{Plan as PlanOf, ends, stops, enter, Run as RunOf}
use Rattle.es3_tree.specs.Tree as t
use Rattle.es3_objects.specs.declared.value.Value.{Value}
use Rattle.es3_objects.specs.declared.value.Value.TheVariants.{Obj}
use Rattle.es3_objects.specs.declared.value.Proto.TheVariants as proto
use Rattle.es3_heap.specs.Objects.{with_object}
use Rattle.es3_heap.specs.Making.{error_object}
use Rattle.es3_language.specs.Store.{Store, with_heap}
use Rattle.es3_language.specs.References.{Ref, just}
use Rattle.es3_language.specs.Operators.{Given, gives, faults, raises}
use Rattle.es3_language.specs.Natives.{Touched}

-- 8.9, 8.7: how a node ends, other than by a fault: an expression gives a value or a reference; a statement comes to its end, jumps or
-- returns, and may have a value until then; each may throw
pub data Completion : Type 0 where
  gave : Value → Completion
  found : Ref → Completion
  normal : Option Value → Completion
  broke : Option (List ℕ) → Option Value → Completion
  continued : Option (List ℕ) → Option Value → Completion
  returned : Value → Completion
  threw : Value → Completion

-- 10.2: where a node stands: the scopes around it, how many calls of texts are open, the running module, and the object that is `this`
pub record Env : Type 0 where
  pub chain : List ℕ
  pub calls : ℕ
  pub by : ℕ
  pub this : ℕ

-- 12.6: a loop: its test, what is done after each turn, and its body
pub record Loop : Type 0 where
  pub test : t.Tree t.maybe_expr
  pub update : t.Tree t.maybe_expr
  pub body : t.Tree t.stmt

-- what takes a step when it is entered
pub data Task : Type 0 where
  -- an expression for its value, or as a reference
  value_of : t.Tree t.expr → Env → Task
  target_of : t.Tree t.expr → Env → Task
  -- a statement, with the labels before it (12.12)
  effect_of : t.Tree t.stmt → List (List ℕ) → Env → Task
  -- the first node of a later turn of a loop, with the value so far and the loop's labels
  again : Loop → Option Value → List (List ℕ) → Env → Task
  -- a key that a `for in` reaches: the object, the key, the keys behind it, what is written to, the body, the value so far and the labels
  next_key : ℕ → List ℕ → List (List ℕ) → t.Tree t.loop_target → t.Tree t.stmt → Option Value → List (List ℕ) → Env → Task
  -- a function that is no text
  native_call : ℕ → Value → List Value → Env → Task

abbrev pub Plan : Type 0
Plan = PlanOf Task Completion Store Touched

abbrev pub Run : Type 0 → Type 0
Run S = RunOf Completion Store S

-- with the value that an expression gave; what else it ended in passes
abbrev pub on_value_of : (Value → Store → Plan) → Completion → Store → Plan
on_value_of go (gave v) s = go v s
on_value_of go e s = ends e s

-- 8.7.1: with the reference that an expression is, or the value where it is none
abbrev pub on_target_of : (Ref → Store → Plan) → Completion → Store → Plan
on_target_of go (found r) s = go r s
on_target_of go (gave v) s = go (just v) s
on_target_of go e s = ends e s

abbrev pub with_value : t.Tree t.expr → Env → Store → (Value → Store → Plan) → Plan
with_value e env s go = enter (value_of e env) s (on_value_of go)

abbrev pub with_target : t.Tree t.expr → Env → Store → (Ref → Store → Plan) → Plan
with_target e env s go = enter (target_of e env) s (on_target_of go)

abbrev pub give : Value → Store → Plan
give v s = ends (gave v) s

-- an error that the interpreter itself throws has no name in the log (15.11.6.5)
abbrev pub throw_error : List ℕ → Store → Plan
throw_error message s =
    ends (threw (Obj (length s.heap.list))) (with_heap s (with_object s.heap (error_object proto.TypeError (codes "TypeError") message)))

-- what an operator gives
abbrev pub with_given : Given → Store → (Value → Store → Plan) → Plan
with_given (gives v) s go = go v s
with_given (faults f) s go = stops f s
with_given (raises message) s go = throw_error message s
