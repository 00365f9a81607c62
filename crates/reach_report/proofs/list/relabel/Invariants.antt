-- The labels that were passed are changed, and no others.
use Rattle.std.proofs.Common.{◌≡◌, ◌++◌, map, take, drop}
use Rattle.reach_report.specs.Links.{joined}
use Rattle.reach_report.proofs.list.relabel.Given as goal

abbrev pub invariant-loop-label : goal.invariant-loop-label
invariant-loop-label l = l.labels ≡ map (joined l.to l.from) (take l.label-index l.fn.labels) ++ drop l.label-index l.fn.labels
