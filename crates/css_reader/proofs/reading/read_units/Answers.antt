use Rattle.std.proofs.Common.{subst}
use Rattle.css_reader.specs.Gives.{Says}
use Rattle.css_reader.proofs.Says.{fails_at}
use Rattle.css_reader.proofs.reading.read_units.Goals as goal

pub returns-in-Ok-Stopped : goal.returns-in-Ok-Stopped
returns-in-Ok-Stopped c =
    fails_at c.refusal.result c.args.list.now c.in-Ok-Stopped.i c.width-in-Ok-Stopped.result (subst (λ r. Says r c.args.list.now) c.in-Ok-Stopped.field-0-is c.in-Ok-Stopped.ensures) c.width-in-Ok-Stopped.ensures c.refusal.ensures
