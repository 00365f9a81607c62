-- What a cell holds is answered.
use Rattle.std.proofs.Common.{◌≡◌, ℕ, [], ◌∙◌, subst}
use Rattle.std.specs.Prelude.{Result, slice_get, unwrap_or}
use Rattle.std.proofs.lemmas.Option.{unwrap_or-slice_get}
use Rattle.es3_objects.specs.declared.value.Value.{Value}
use Rattle.es3_objects.specs.declared.value.Value.TheVariants as v
use Rattle.es3_objects.specs.declared.value.Stop.{Stop}
use Rattle.es3_heap.specs.Objects.{Objects}
use Rattle.es3_moves.specs.Answers.{Answers}
use Rattle.heap_rows.specs.Doing.{gives}
use Rattle.row_outcomes.specs.declared.Outcome.{Outcome}
use Rattle.row_outcomes.specs.Comes.{Comes}
use Rattle.page_natives.specs.Answered.{answered, turn_of}
use Rattle.page_natives.specs.Objects.{to_value}
use Rattle.page_natives.specs.Natives.{Kept, cell_done}
use Rattle.page_natives.proofs.Answered.{comes_answers}

pub got : (z : Kept) (cell : ℕ) (h : Objects) (held : Value) (result : Result Outcome Stop) → held ≡ unwrap_or (slice_get z.cells cell) v.Undefined → Comes (to_value held h) result h
    → Answers (turn_of (cell_done cell z.cells h) z) (answered result) h z
got z cell h held result is comes =
    subst (λ x. Answers (turn_of (gives x h []) z) (answered result) h z) (is ∙ unwrap_or-slice_get z.cells cell v.Undefined) (comes_answers (to_value held h) z result h comes)
