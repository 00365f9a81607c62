use Rattle.std.proofs.Common.{◌+◌, drop, sym, ap, ◌∙◌, arith}
use Rattle.std.proofs.lemmas.Result.{on_ok_weaker}
use Rattle.html_grammar.specs.Trees.{many}
use Rattle.html_tree.proofs.Rows.{view_element}
use Rattle.html_tree.specs.Views.{tree, trees}
use Rattle.doc_tree.proofs.Added.{element_added, next_added, none_added}
use Rattle.doc_tree.proofs.cleaned.+adds.Goals as goal
use Rattle.doc_tree.specs.Cleaned.{add}

pub add-returns-in_ok-node-in-Element : goal.add-returns-in_ok-node-in-Element
add-returns-in_ok-node-in-Element t c =
    let tag = c.in-Element.tag in
    let is = ap tree c.in-Element.is ∙ view_element tag c.in-Element.attrs c.in-Element.content in
    let added = element_added c.args.ids.now c.args.parent.now c.in_ok-node-in-Element.node c.args.around c.in_ok-node-in-Element.root c.args.document.now c.add_element.new.document tag c.in-Element.attrs.items c.deref.result.now
    (trees c.in-Element.content.items) (trees c.deref-in-Element.result.now) (tree c.args.html.now) is (ap trees c.deref-in-Element.ensures.value) c.deref.ensures.value c.in_ok-node-in-Element.ensures.at c.in_ok-node-in-Element.ensures.root c.in_ok-node-in-Element.ensures.ok in
    on_ok_weaker c.add_all.result (λ e. e ∙ added) c.add_all.ensures

pub add_all-loop-html-preserved : goal.add_all-loop-html-preserved
add_all-loop-html-preserved t c =
    let next = next_added c.args.ids.now c.args.list.now c.loop-html.html-index c.html-item.result c.args.parent.now c.args.around c.loop-html.document c.loop-html-test.true c.html-item.is in
    ap (add c.args.ids.now many (trees (drop (c.loop-html.html-index + 1) c.args.list.now)) c.args.parent.now c.args.around) c.in_ok-add.ensures ∙ sym next ∙ c.loop-html.invariant

pub add_all-returns : goal.add_all-returns
add_all-returns t c = sym (none_added c.args.ids.now c.args.list.now c.loop-html.html-index c.args.parent.now c.args.around c.loop-html.document (omega arith)) ∙ c.loop-html.invariant
