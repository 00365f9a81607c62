-- What is left decides.
use Rattle.std.proofs.Common.{◌≡◌, drop, length}
use Rattle.page_binding.specs.Table.{overlap_from}
use Rattle.page_binding.proofs.finding.first_overlapping_root.Given as goal

abbrev pub invariant-loop-k : goal.invariant-loop-k
invariant-loop-k l = overlap_from l.roots l.table l.nearest l.k (drop l.k l.list) ≡ overlap_from l.roots l.table (length l.roots) 0 l.list
