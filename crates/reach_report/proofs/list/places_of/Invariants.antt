-- The places that were found so far.
use Rattle.std.proofs.Common.{◌≡◌, filter, get_or}
use Rattle.reach_report.specs.Links.{same_node}
use Rattle.reach_report.specs.Groups.{below}
use Rattle.reach_report.proofs.list.places_of.Given as goal

abbrev pub invariant-loop-n : goal.invariant-loop-n
invariant-loop-n l = l.places.items ≡ filter (λ n. same_node (get_or l.labels n l.label) l.label) (below l.n)
