use Rattle.std.proofs.Common.{◌≡◌, length, arith}
use Rattle.doc_tree.proofs.Left.{only_level, all_printed}
use Rattle.doc_tree.proofs.document.Document.print_node.Goals as goal

pub levels-init : goal.levels-init
levels-init c =
    rw (c.in_ok-push.ensures.items, c.new-levels.ensures.items) (only_level c.args.most c.args.self.now c.args.n c.args.out.now.items c.open.new.out.items c.in_ok-open.ensures)

pub returns-in-None : goal.returns-in-None
returns-in-None c =
    let none : length c.levels.levels.items ≡ 0 = omega (arith, c.in-None.ensures.cases.0) in
    all_printed c.args.most c.args.self.now c.levels.levels.items c.levels.out.items _ none c.levels.invariant
