-- What a function comes to, as the answer of a native and as its turn, whatever natives keep.
use Rattle.std.specs.Prelude.{Result, Ok, Err}
use Rattle.es3_objects.specs.declared.value.Stop.{Stop}
use Rattle.es3_language.specs.Natives.{Turn}
use Rattle.es3_moves.specs.declared.natives.Answer.{Answer}
use Rattle.es3_moves.specs.declared.natives.Answer.TheVariants as answer
use Rattle.row_outcomes.specs.declared.Outcome.{Outcome}
use Rattle.row_outcomes.specs.declared.Outcome.TheVariants as outcome
use Rattle.heap_rows.specs.Doing.{Done}

abbrev pub answered : Result Outcome Stop → Answer
answered (Ok (outcome.Value x)) = answer.Value x
answered (Ok (outcome.Throw x)) = answer.Throw x
answered (Ok (outcome.Invoke recorded f this args)) = answer.Invoke recorded f this args
answered (Err s) = answer.Stop s

abbrev pub turn_of : {S : Type 0} → Done → S → Turn S
turn_of d z = record { reply = d.reply; heap = d.heap; state = z }
