-- The modules that were passed.
use Rattle.std.proofs.Common.{◌≡◌, map}
use Rattle.reach_report.specs.declared.Node.TheVariants.{Module}
use Rattle.reach_report.specs.Groups.{below}
use Rattle.reach_report.proofs.list.own_labels.Given as goal

abbrev pub invariant-loop-m : goal.invariant-loop-m
invariant-loop-m l = l.labels.items ≡ map Module (below l.m)
