use Rattle.std.proofs.Common.{◌≡◌, map, drop}
use Rattle.std.specs.Prelude.{vec_len}
use Rattle.page_manifest.specs.Walk.{traverse}
use Rattle.page_manifest.proofs.Chains.{behind}
use Rattle.page_manifest.specs.Manifest as spec
use Rattle.serde_json.specs.View.{view}
use Rattle.page_manifest.specs.View.{style}
use Rattle.page_manifest.proofs.pages.styles.Given as goal

abbrev pub invariant-loop-i : goal.invariant-loop-i
invariant-loop-i l = (vec_len l.styles ≡ l.i) × (behind (map style l.styles.items) (traverse spec.style l.i (map view (drop l.i l.entry-items))) ≡ traverse spec.style 0 (map view l.entry-items))
