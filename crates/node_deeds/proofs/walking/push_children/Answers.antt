use Rattle.std.proofs.Common.{◌≡◌, ◌++◌, ◌-◌, suc, length, sym, ap, ◌∙◌, arith}
use Rattle.doc_nodes.specs.Rows.{row_at, children_in}
use Rattle.node_deeds.specs.Walk.{walk, all_visits}
use Rattle.node_deeds.proofs.Visits.{walk-zero, child-moved, no-child}
use Rattle.node_deeds.proofs.walking.push_children.Goals as goal

pub returns-then-levels-eq0 : goal.returns-then-levels-eq0
returns-then-levels-eq0 c =
    let none : c.args.levels ≡ 0 = omega (arith, c.if-levels-eq0.true) in
    sym (ap (λ xs. xs ++ all_visits c.args.document.now c.args.pending.now.items) (walk-zero c.args.levels c.args.document.now (children_in (row_at c.args.document.now c.args.n)) none))

pub children-init : goal.children-init
children-init c = ap (λ ns. walk c.args.levels c.args.document.now ns ++ all_visits c.args.document.now c.args.pending.now.items) c.in_ok-list.ensures

pub children-preserved : goal.children-preserved
children-preserved c =
    let more : c.args.levels ≡ suc (c.args.levels - 1) = omega (arith, c.if-levels-eq0.false) in
    child-moved c.args.levels (c.args.levels - 1) c.args.document.now c.children.list.items c.pop.new.self.items c.in-Some.node c.children.pending.items c.push.new.self.items more c.in-Some.ensures.items c.in_ok-push-in-Some.ensures.items
    ∙ c.children.invariant

pub returns-in-None : goal.returns-in-None
returns-in-None c =
    let none : length c.children.list.items ≡ 0 = omega (arith, c.in-None.ensures.cases.0) in
    no-child c.args.levels c.args.document.now c.children.list.items (all_visits c.args.document.now c.children.pending.items) _ none c.children.invariant
