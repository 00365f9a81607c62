use Rattle.std.proofs.Common.{arith}
use Rattle.serde_json.specs.View.{view}
use Rattle.page_manifest.specs.Manifest as spec
use Rattle.page_manifest.specs.NamedView as shown
use Rattle.page_manifest.proofs.Chains.{turn, next_entry}
use Rattle.page_manifest.proofs.modules.wishes.Goals as goal

pub loop-entry-preserved : goal.loop-entry-preserved
loop-entry-preserved c =
    turn (λ _. spec.grant c.args.at) view shown.named_wish c.loop-entry.entry-index _ c.loop-entry.wishes.items _ c.loop-entry.invariant c.entry-item.result _ c.in_ok-named_wish.field-0 c.push.new.self.items
    (next_entry _ c.loop-entry.entry-index c.entry-item.result (omega arith) c.entry-item.is) c.in_ok-named_wish.ensures c.in_ok-push.ensures.items
