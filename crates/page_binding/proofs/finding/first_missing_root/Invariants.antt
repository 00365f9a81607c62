-- What is left decides.
use Rattle.std.proofs.Common.{◌≡◌, drop}
use Rattle.page_binding.specs.Bound.{first_missing}
use Rattle.page_binding.specs.Table.{is_held}
use Rattle.page_binding.proofs.finding.first_missing_root.Given as goal

abbrev pub invariant-loop-id : goal.invariant-loop-id
invariant-loop-id l = first_missing (is_held l.table) (drop l.id-index l.list) ≡ first_missing (is_held l.table) l.list
