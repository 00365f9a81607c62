use Rattle.std.proofs.Common.{◌≡◌, length, arith}
use Rattle.node_deeds.proofs.Visits.{only-visit, visited, fewer-visits, all-visited}
use Rattle.node_deeds.proofs.walking.walk.Goals as goal

pub nodes-init : goal.nodes-init
nodes-init c = only-visit c.args.document.now c.args.n c.args.levels c.new-list.result.items c.new-pending.result.items c.push.new.self.items c.new-list.ensures.items c.new-pending.ensures.items c.in_ok-push.ensures.items

pub nodes-smaller : goal.nodes-smaller
nodes-smaller c = fewer-visits c.args.document.now c.in-Some.next.node c.in-Some.next.levels c.nodes.pending.items c.pop.new.self.items c.push_children.new.pending.items c.in-Some.ensures.items c.in_ok-push_children-in-Some.ensures

pub nodes-preserved : goal.nodes-preserved
nodes-preserved c =
    visited c.args.document.now c.in-Some.next.node c.in-Some.next.levels c.nodes.list.items c.push-in-Some.new.self.items _ c.nodes.pending.items c.pop.new.self.items c.push_children.new.pending.items c.in-Some.ensures.items
    c.in_ok-push-in-Some.ensures.items c.in_ok-push_children-in-Some.ensures c.nodes.invariant

pub returns-in-None : goal.returns-in-None
returns-in-None c =
    let none : length c.nodes.pending.items ≡ 0 = omega (arith, c.in-None.ensures.cases.0) in
    all-visited c.args.document.now c.nodes.pending.items c.nodes.list.items _ none c.nodes.invariant
