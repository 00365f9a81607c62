use Rattle.std.proofs.Common.{◌≡◌, drop, take}
use Rattle.page_manifest.specs.Bound as spec
use Rattle.page_manifest.proofs.bound.repeated.Given as goal

-- what is left decides
abbrev pub invariant-loop-i : goal.invariant-loop-i
invariant-loop-i l = spec.repeated (take l.i l.names) l.i (drop l.i l.names) ≡ spec.once_each l.names
