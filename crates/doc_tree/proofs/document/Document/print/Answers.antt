use Rattle.std.proofs.Common.{◌≡◌, ◌-◌, ◌<◌, ◌∙◌, sym, arith, suc, length, ap, get_or, ◌≤◌}
use Rattle.doc_nodes.specs.Rows.{Doc}
use Rattle.doc_tree.specs.Printing.{print}
use Rattle.doc_tree.proofs.Left.{drop_printed, end_printed, empty_printed}
use Rattle.doc_tree.proofs.document.Document.print.Goals as goal

pub loop-n-preserved : goal.loop-n-preserved
loop-n-preserved c =
    let rows = length c.args.self.now.rows in
    let same : length c.self.inside.nodes.items ≡ length c.args.self.now.rows = ap (λ (d : Doc). length d.rows) c.self.view_is in
    let count : c.len-count.result ≡ length c.self.inside.nodes.items = omega arith in
    let more : rows ≡ suc (c.len-count.result - 1) = omega arith in
    let items : c.deref-n-items.result.now ≡ c.args.self.now.top = c.deref-n-items.ensures.value ∙ ap (λ (d : Doc). d.top) c.self.view_is in
    let less : c.loop-n.n-index < length c.args.self.now.top = rw (← items) c.loop-n-test.true in
    let here : c.n-item.result ≡ get_or c.args.self.now.top c.loop-n.n-index c.n-item.result = rw (← items) c.n-item.is in
    drop_printed rows (c.len-count.result - 1) c.loop-n.n-index c.n-item.result c.args.self.now c.args.self.now.top c.loop-n.out.items c.print_node.new.out.items (print c.args.self.now) more less here c.loop-n.invariant c.in_ok-print_node.ensures

pub returns-then-count-eq0 : goal.returns-then-count-eq0
returns-then-count-eq0 c =
    let same : length c.self.inside.nodes.items ≡ length c.args.self.now.rows = ap (λ (d : Doc). length d.rows) c.self.view_is in
    let count : c.len-count.result ≡ length c.self.inside.nodes.items = omega arith in
    let none : length c.args.self.now.rows ≡ 0 = omega arith in
    c.new-out.ensures.items ∙ sym (empty_printed (length c.args.self.now.rows) c.args.self.now c.args.self.now.top none)

pub returns : goal.returns
returns c =
    let items : c.deref-n-items.result.now ≡ c.args.self.now.top = c.deref-n-items.ensures.value ∙ ap (λ (d : Doc). d.top) c.self.view_is in
    let over : length c.args.self.now.top ≤ c.loop-n.n-index = rw (← items) (omega arith) in
    end_printed (length c.args.self.now.rows) c.loop-n.n-index c.args.self.now c.args.self.now.top c.loop-n.out.items (print c.args.self.now) over c.loop-n.invariant
