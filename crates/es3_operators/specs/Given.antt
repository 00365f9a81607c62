-- The plain form of what operators give.
use Rattle.std.specs.Prelude.{Result, Ok, Err}
use Rattle.plans.specs.Plans as plans
use Rattle.es3_language.specs.Operators as o
use Rattle.es3_moves.specs.declared.frame.Fault.{Fault}
use Rattle.es3_moves.specs.Where.{plain_fault}
use Rattle.es3_operators.specs.declared.given.Given.{Given}
use Rattle.es3_operators.specs.declared.given.Given.TheVariants as given

abbrev pub plain_given : Given → o.Given
plain_given (given.Value v) = o.gives v
plain_given (given.Fault f) = o.faults (plain_fault f)
plain_given (given.Raise message) = o.raises message.now

abbrev pub plain_result : {A : Type 0} → Result A Fault → Result A plans.Fault
plain_result (Ok x) = Ok x
plain_result (Err f) = Err (plain_fault f)
