use Rattle.std.proofs.Common.{◌≡◌, map, drop}
use Rattle.std.specs.Prelude.{vec_len}
use Rattle.page_manifest.specs.Walk.{traverse}
use Rattle.page_manifest.proofs.Chains.{behind}
use Rattle.page_manifest.specs.Manifest as spec
use Rattle.serde_json.specs.View.{view}
use Rattle.page_manifest.specs.NamedView as shown
use Rattle.page_manifest.proofs.modules.modules.Given as goal

abbrev pub invariant-loop-i : goal.invariant-loop-i
invariant-loop-i l = (vec_len l.modules ≡ l.i) × (behind (map shown.told l.modules.items) (traverse (spec.told l.es3) l.i (map view (drop l.i l.entry-items))) ≡ traverse (spec.told l.es3) 0 (map view l.entry-items))
