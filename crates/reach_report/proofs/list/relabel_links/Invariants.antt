-- The links that were passed are changed, and no others.
use Rattle.std.proofs.Common.{◌≡◌, ◌++◌, map, take, drop}
use Rattle.reach_report.proofs.Loops.{relabelled_link}
use Rattle.reach_report.proofs.list.relabel_links.Given as goal

abbrev pub invariant-loop-link : goal.invariant-loop-link
invariant-loop-link l = l.links ≡ map (relabelled_link l.to l.from) (take l.link-index l.fn.links) ++ drop l.link-index l.fn.links
