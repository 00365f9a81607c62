-- A link more is changed.
use Rattle.std.proofs.Common.{arith}
use Rattle.std.proofs.lemmas.Grind.{common_steps}
use Rattle.std.proofs.lemmas.List.Edits.{map_over_more}
use Rattle.reach_report.proofs.Loops.{relabelled_link}
use Rattle.reach_report.proofs.list.relabel_links.Goals as goal

pub loop-link-preserved : goal.loop-link-preserved
loop-link-preserved c = grind (arith, common_steps, map_over_more (relabelled_link c.args.to c.args.from))
