use Rattle.std.proofs.Common.{◌≡◌, map}
use Rattle.std.specs.List.{range_with_len}
use Rattle.page_manifest.specs.View.{module_spec}
use Rattle.caja_gen.specs.Generated.{module_of}
use Rattle.caja_gen.proofs.modules.Given as goal

abbrev pub invariant-loop-k : goal.invariant-loop-k
invariant-loop-k l = map module_spec l.modules.items ≡ map module_of (range_with_len 0 l.k)
