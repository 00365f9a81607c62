-- What a function comes to is what natives answer by it, whatever they keep.
use Rattle.std.proofs.Common.{◌≡◌, Result, Ok, Err, ap, ◌∙◌}
use Rattle.es3_objects.specs.declared.value.Stop.{Stop}
use Rattle.es3_objects.specs.declared.value.Stop.TheVariants as stop
use Rattle.es3_heap.specs.Objects.{Objects}
use Rattle.es3_language.specs.Natives.{Reply, Turn}
use Rattle.es3_moves.specs.Answers.{Answers}
use Rattle.row_outcomes.specs.declared.Outcome.{Outcome}
use Rattle.row_outcomes.specs.declared.Outcome.TheVariants as outcome
use Rattle.row_outcomes.specs.Comes.{Comes}
use Rattle.heap_rows.specs.Doing.{Done}
use Rattle.page_natives.specs.Answered.{answered, turn_of}

same_turn : {S : Type 0} (a b : Reply) (h g : Objects) (z : S) → a ≡ b → h ≡ g → (let t : Turn S = record { reply = a; heap = h; state = z } in t) ≡ record { reply = b; heap = g; state = z }
same_turn a b h g z same left = ap (λ r. record { reply = r; heap = h; state = z }) same ∙ ap (λ q. record { reply = b; heap = q; state = z }) left

pub comes_answers : {S : Type 0} (d : Done) (z : S) (r : Result Outcome Stop) (h : Objects) → Comes d r h → Answers (turn_of d z) (answered r) h z
comes_answers d z (Ok (outcome.Value x)) h comes = same_turn _ _ _ _ z comes.0 comes.1
comes_answers d z (Ok (outcome.Throw x)) h comes = same_turn _ _ _ _ z comes.0 comes.1
comes_answers d z (Ok (outcome.Invoke recorded f this args)) h comes = same_turn _ _ _ _ z comes.0 comes.1
comes_answers d z (Err stop.Number) h comes = same_turn _ _ _ _ z comes.0 comes.1
comes_answers d z (Err stop.Depth) h comes = same_turn _ _ _ _ z comes.0 comes.1
comes_answers d z (Err stop.Convert) h comes = same_turn _ _ _ _ z comes.0 comes.1
comes_answers d z (Err stop.Steps) h comes = absurd comes
comes_answers d z (Err stop.Memory) h comes = tt
