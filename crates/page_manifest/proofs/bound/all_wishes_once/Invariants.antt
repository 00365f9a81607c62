use Rattle.std.proofs.Common.{◌≡◌, map, drop, take}
use Rattle.page_manifest.specs.Walk.{traverse}
use Rattle.page_manifest.proofs.Chains.{behind}
use Rattle.page_manifest.specs.Bound as spec
use Rattle.page_manifest.specs.NamedView as wanted
use Rattle.page_manifest.proofs.bound.all_wishes_once.Given as goal

abbrev pub invariant-loop-i : goal.invariant-loop-i
invariant-loop-i l = behind (map (λ m. spec.wish_names (wanted.told m)) (take l.i l.modules)) (traverse spec.wishes_once l.i (map wanted.told (drop l.i l.modules))) ≡ traverse spec.wishes_once 0 (map wanted.told l.modules)
