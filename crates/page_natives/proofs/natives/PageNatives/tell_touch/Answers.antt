use Rattle.page_natives.specs.Natives.{kept_of}
use Rattle.page_natives.proofs.Telling.{guard_silent}
use Rattle.page_natives.proofs.natives.PageNatives.tell_touch.Goals as goal

pub returns-then-not-self : goal.returns-then-not-self
returns-then-not-self c = guard_silent c.args.guard c.args.by c.args.args.now c.args.h.now (kept_of c.args.self.now) c.if-not-self.true
