use Rattle.std.proofs.Common.{drop, ◌∙◌, ap}
use Rattle.event_script.proofs.Turns.{queue_is, edited, first_taken}
use Rattle.std.specs.List.{slice_get}
use Rattle.event_script.proofs.queues.Queues.take.Goals as goal

pub returns-clause-taken : goal.returns-clause-taken
returns-clause-taken c = first_taken c.pop_front.result _ _ c.pop_front.ensures.items c.pop_front.ensures.rest ∙ ap (λ l. slice_get l 0) (queue_is (λ q. q.items) _ _ c.self.view_is _ c.requires _ c.index_mut.ensures.value)

pub returns-clause-left : goal.returns-clause-left
returns-clause-left c = edited (λ q. q.items) _ _ c.self.view_is _ c.requires _ c.index_mut.ensures.value _ (drop 1) c.pop_front.ensures.rest
