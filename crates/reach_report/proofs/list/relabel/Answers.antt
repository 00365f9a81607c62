-- A label more is changed.
use Rattle.std.proofs.Common.{arith}
use Rattle.std.proofs.lemmas.Grind.{common_steps}
use Rattle.std.proofs.lemmas.List.Edits.{map_over_more}
use Rattle.reach_report.specs.Links.{joined}
use Rattle.reach_report.proofs.list.relabel.Goals as goal

pub loop-label-preserved : goal.loop-label-preserved
loop-label-preserved c = grind (arith, common_steps, map_over_more (joined c.args.to c.args.from))
