use Rattle.std.proofs.Common.{ap, ◌∙◌}
use Rattle.page_natives.specs.Natives.{kept_of}
use Rattle.page_natives.proofs.Queues.{all_stay, with_waiting_now}
use Rattle.page_natives.proofs.natives.PageNatives.take_waiting.Goals as goal

pub returns-clause-none : goal.returns-clause-none
returns-clause-none c = λ none.
    let before = kept_of c.args.self.now in
    ap (with_waiting_now before) (c.take_first.ensures.left ∙ all_stay c.args.owner before.waiting none)
