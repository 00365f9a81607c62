-- The constructors of errors (ES3 15.11.1, 15.11.7), called as functions or by `new`.
use Rattle.std.specs.Prelude.{ℕ, List, [], Result}
use Rattle.plans.specs.Plans.{Fault}
use Rattle.es3_objects.specs.declared.value.Proto.{Proto}
use Rattle.es3_heap.specs.Objects.{Objects}
use Rattle.es3_heap.specs.Making.{error_object}
use Rattle.es3_language.specs.Natives.{value_reply}
use Rattle.heap_rows.specs.Doing.{Done, makes}
use Rattle.row_outcomes.specs.Arguments.{after}

-- a new error of the running module, or the fault of its message
abbrev pub gives_error : Proto → List ℕ → Result (List ℕ) Fault → ℕ → Objects → Done
gives_error proto name message by h = after message h (λ us. makes value_reply by (error_object proto name us) h [])
