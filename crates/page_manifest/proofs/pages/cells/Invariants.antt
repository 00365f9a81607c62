use Rattle.std.proofs.Common.{◌≡◌, map, drop}
use Rattle.std.specs.Prelude.{vec_len}
use Rattle.page_manifest.specs.Walk.{traverse}
use Rattle.page_manifest.proofs.Chains.{behind}
use Rattle.page_manifest.specs.Manifest as spec
use Rattle.serde_json.specs.View.{view}
use Rattle.page_manifest.proofs.pages.cells.Given as goal

abbrev pub invariant-loop-i : goal.invariant-loop-i
invariant-loop-i l = (vec_len l.cells ≡ l.i) × (behind (map (λ us. us) l.cells.items) (traverse spec.name l.i (map view (drop l.i l.entry-items))) ≡ traverse spec.name 0 (map view l.entry-items))
