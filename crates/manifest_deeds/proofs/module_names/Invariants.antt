use Rattle.std.proofs.Common.{◌≡◌, map, take}
use Rattle.manifest_deeds.proofs.module_names.Given as goal

abbrev pub invariant-loop-module : goal.invariant-loop-module
invariant-loop-module l = l.names.items ≡ map (λ m. m.name) (take l.module-index l.modules)
