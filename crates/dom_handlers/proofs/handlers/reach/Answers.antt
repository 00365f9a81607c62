use Rattle.std.proofs.Common.{ap, ◌∙◌}
use Rattle.dom_handlers.specs.Kept.{places_of}
use Rattle.dom_handlers.proofs.Kept.{none_more}
use Rattle.dom_handlers.proofs.handlers.reach.Goals as goal

pub reach-preserved : goal.reach-preserved
reach-preserved c = record {
  same = λ n. ap (λ l. places_of (λ ps. ps.items) l n) c.in_ok-push.ensures.items ∙ none_more (λ ps. ps.items) c.reach.places.items _ n c.new.ensures.items ∙ c.reach.invariant.same n;
}
