-- The groups whose first modules were passed.
use Rattle.std.proofs.Common.{◌≡◌, map, filter}
use Rattle.reach_report.specs.Groups.{below, is_with, firsts}
use Rattle.reach_report.proofs.list.groups.Given as goal

abbrev pub invariant-loop-m : goal.invariant-loop-m
invariant-loop-m l = map (λ g. g.items) l.found.items ≡ map (λ f. filter (is_with l.links f) (below l.modules)) (firsts l.links l.m)
