use Rattle.std.proofs.Common.{[], ◌∷◌, ◌++◌, ap, ◌∙◌}
use Rattle.std.proofs.Math.Seq.{map-set_same}
use Rattle.event_script.proofs.Turns.{edited, on_any}
use Rattle.event_script.proofs.queues.Queues.add.Goals as goal

pub returns-in_err-push_back-clause-err : goal.returns-in_err-push_back-clause-err
returns-in_err-push_back-clause-err c = on_any c.from_residual.result (map-set_same (λ q. q.items) _ _ _ _ (c.in_err-push_back.ensures.items ∙ ap (λ q. q.items) c.index_mut.ensures.value) ∙ c.self.view_is)

pub returns-clause-ok : goal.returns-clause-ok
returns-clause-ok c = edited (λ q. q.items) _ _ c.self.view_is _ c.requires _ c.index_mut.ensures.value _ (λ waiting. waiting ++ c.args.f ∷ []) c.in_ok-push_back.ensures.items
