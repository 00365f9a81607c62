-- Functions that are no text, seen from a text: what each answers, and what is recorded of a text's doings.
use Rattle.std.specs.Prelude.{ℕ, Bool, List, Option}
use Rattle.plans.specs.Plans.{Fault}
use Rattle.es3_objects.specs.declared.value.Value.{Value}
use Rattle.es3_objects.specs.declared.value.Tag.{Tag}
use Rattle.es3_heap.specs.Objects.{Objects}
use Rattle.es3_language.specs.declared.Touch.{Touch}

-- an object with a name is touched: by which module, how, which one, and at which key
pub record Touched : Type 0 where
  pub by : ℕ
  pub what : Touch
  pub on : Tag
  pub key : Option (List ℕ)

-- what a native answers: a value, a value thrown, a call to be made in its place (and whether that is recorded as a call), or a fault
pub data Reply : Type 0 where
  value_reply : Value → Reply
  throw_reply : Value → Reply
  invoke_reply : Bool → Value → Value → List Value → Reply
  stop_reply : Fault → Reply

pub record Turn (S : Type 0) : Type 0 where
  pub reply : Reply
  pub heap : Objects
  pub state : S

-- what the natives do: what each answers, by its number, the running module, the receiver and the arguments; what a touch leaves
pub record Table (S : Type 0) : Type 0 where
  pub answer : ℕ → ℕ → Value → List Value → Objects → S → Turn S
  pub touch : Touched → S → S
