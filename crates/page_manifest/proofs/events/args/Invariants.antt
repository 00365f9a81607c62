use Rattle.std.proofs.Common.{◌≡◌, map, drop}
use Rattle.page_manifest.specs.Walk.{traverse}
use Rattle.page_manifest.proofs.Chains.{behind}
use Rattle.page_manifest.specs.Manifest as spec
use Rattle.serde_json.specs.View.{view}
use Rattle.host_rules.specs.Plain.{plain}
use Rattle.page_manifest.proofs.events.args.Given as goal

abbrev pub invariant-loop-entry : goal.invariant-loop-entry
invariant-loop-entry l = behind (map plain l.args.items) (traverse (λ _. spec.plain l.at) l.entry-index (map view (drop l.entry-index l.entry-items))) ≡ traverse (λ _. spec.plain l.at) 0 (map view l.entry-items)
