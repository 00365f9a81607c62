use Rattle.std.proofs.Common.{◌≡◌, map, drop}
use Rattle.std.specs.Prelude.{vec_len}
use Rattle.page_manifest.specs.Walk.{traverse}
use Rattle.page_manifest.proofs.Chains.{behind}
use Rattle.page_manifest.specs.Manifest as spec
use Rattle.serde_json.specs.View.{view}
use Rattle.page_manifest.specs.NamedView as shown
use Rattle.page_manifest.proofs.events.plans.Given as goal

abbrev pub invariant-loop-i : goal.invariant-loop-i
invariant-loop-i l = (vec_len l.plans ≡ l.i) × (behind (map shown.plan l.plans.items) (traverse spec.event l.i (map view (drop l.i l.entry-items))) ≡ traverse spec.event 0 (map view l.entry-items))
