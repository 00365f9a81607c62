-- What two rows come to is alike where the answer and the objects are the same, whatever was touched.
use Rattle.std.proofs.Common.{◌≡◌, Result, Ok, Err, ap, ◌∙◌}
use Rattle.es3_objects.specs.declared.value.Stop.{Stop}
use Rattle.es3_objects.specs.declared.value.Stop.TheVariants as stop
use Rattle.es3_heap.specs.Objects.{Objects}
use Rattle.heap_rows.specs.Doing.{Done}
use Rattle.row_outcomes.specs.declared.Outcome.{Outcome}
use Rattle.row_outcomes.specs.declared.Outcome.TheVariants as outcome
use Rattle.row_outcomes.specs.Comes.{Comes}

pub record Alike (d e : Done) : Type 0 where
  pub reply : d.reply ≡ e.reply
  pub heap : d.heap ≡ e.heap

pub alike_same : (d e : Done) → d ≡ e → Alike d e
alike_same d e same = record { reply = ap (λ q. q.reply) same; heap = ap (λ q. q.heap) same }

pub alike_then : (d e f : Done) → Alike d e → Alike e f → Alike d f
alike_then d e f one other = record { reply = one.reply ∙ other.reply; heap = one.heap ∙ other.heap }

-- an outcome of the one is an outcome of the other
pub comes_alike : (d e : Done) (r : Result Outcome Stop) (h : Objects) → Alike d e → Comes e r h → Comes d r h
comes_alike d e (Ok (outcome.Value x)) h alike comes = (alike.reply ∙ comes.0, alike.heap ∙ comes.1)
comes_alike d e (Ok (outcome.Throw x)) h alike comes = (alike.reply ∙ comes.0, alike.heap ∙ comes.1)
comes_alike d e (Ok (outcome.Invoke recorded f this args)) h alike comes = (alike.reply ∙ comes.0, alike.heap ∙ comes.1)
comes_alike d e (Err stop.Number) h alike comes = (alike.reply ∙ comes.0, alike.heap ∙ comes.1)
comes_alike d e (Err stop.Depth) h alike comes = (alike.reply ∙ comes.0, alike.heap ∙ comes.1)
comes_alike d e (Err stop.Convert) h alike comes = (alike.reply ∙ comes.0, alike.heap ∙ comes.1)
comes_alike d e (Err stop.Steps) h alike comes = comes
comes_alike d e (Err stop.Memory) h alike comes = tt
