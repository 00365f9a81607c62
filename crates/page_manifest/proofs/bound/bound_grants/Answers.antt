use Rattle.std.proofs.Common.{rules, vec_len}
use Rattle.std.specs.Vec.Iter.{into_iter_items}
use Rattle.page_manifest.specs.Bound as spec
use Rattle.page_manifest.specs.NamedView as wanted
use Rattle.page_manifest.specs.View as shown
use Rattle.page_manifest.proofs.Chains.{turn}
use Rattle.page_manifest.proofs.bound.bound_grants.Goals as goal

pub loop-name-preserved : goal.loop-name-preserved
loop-name-preserved c =
    search (rules, turn (λ _. spec.bound_wish c.args.cells.now c.args.modules.now c.args.at) wanted.named_wish (λ g. (g.0, shown.grant g.1)) (vec_len c.loop-name.grants) (into_iter_items c.loop-name.name-iterator) c.loop-name.grants.items _ c.loop-name.invariant (c.in-Some.name, c.in-Some.wish) (into_iter_items c.next.new.self) (c.in-Some.name, c.in_ok-grant.grant) c.push.new.self.items)
