use Rattle.std.proofs.Common.{◌≡◌, ◌≤◌, ◌+◌, length, map}
use Rattle.page_manifest.specs.Walk.{traverse}
use Rattle.page_manifest.proofs.Chains.{behind}
use Rattle.page_manifest.specs.Bound as spec
use Rattle.page_manifest.specs.NamedView as wanted
use Rattle.std.specs.Vec.Iter.{into_iter_items}
use Rattle.std.specs.Prelude.{vec_len}
use Rattle.page_manifest.specs.View as shown
use Rattle.page_manifest.proofs.bound.bound_modules.Given as goal

abbrev pub invariant-loop-module : goal.invariant-loop-module
invariant-loop-module l = (vec_len l.bound + length (into_iter_items l.module-iterator) ≤ 64) × (behind (map shown.module_spec l.bound.items) (traverse (spec.bound_module l.cells l.names) (vec_len l.bound) (map wanted.told (into_iter_items l.module-iterator))) ≡ traverse (spec.bound_module l.cells l.names) 0 (map wanted.told l.fn.modules.items))
