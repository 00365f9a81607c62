use Rattle.std.proofs.Common.{◌≡◌, ◌++◌, map}
use Rattle.std.specs.Vec.Iter.{into_iter_items}
use Rattle.es3_tree.specs.View.{program as program_view}
use Rattle.page_cajole.specs.PageAnswers.{runnable}
use Rattle.caja_cli.specs.Output.{programs_in}
use Rattle.caja_cli.proofs.page_commands.programs_of.Given as goal

abbrev pub invariant-loop-module : goal.invariant-loop-module
invariant-loop-module l = map program_view l.programs.items ++ programs_in (map runnable (into_iter_items l.module-iterator)) ≡ programs_in (map runnable l.fn.cajoled.items)
