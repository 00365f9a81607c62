-- What is left decides.
use Rattle.std.proofs.Common.{◌≡◌, drop, map}
use Rattle.page_manifest.specs.View.{style}
use Rattle.page_binding.specs.Bound.{first_bare}
use Rattle.page_binding.specs.Table.{is_held}
use Rattle.page_binding.proofs.finding.first_bare_style.Given as goal

abbrev pub invariant-loop-i : goal.invariant-loop-i
invariant-loop-i l = first_bare (is_held l.table) l.i (map style (drop l.i l.styles)) ≡ first_bare (is_held l.table) 0 (map style l.styles)
