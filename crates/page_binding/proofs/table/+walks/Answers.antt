use Rattle.std.proofs.Common.{ℕ, ◌+◌, drop, Err, refl, sym, ap, ◌∙◌, arith}
use Rattle.std.specs.Prelude.{codes}
use Rattle.html_grammar.specs.Trees.{one, many}
use Rattle.html_tree.proofs.Rows.{view_element}
use Rattle.html_tree.specs.Views.{tree, trees}
use Rattle.doc_nodes.specs.Rows.{value_at}
use Rattle.page_manifest.specs.Faults.{chain}
use Rattle.page_manifest.proofs.Chains.{goes_on}
use Rattle.page_binding.specs.Table.{Table, entered, walked}
use Rattle.page_binding.proofs.Rows.{next_walked, none_walked, element_walked}
use Rattle.page_binding.proofs.Entering.{stops, of_same}
use Rattle.page_binding.proofs.table.+walks.Goals as goal

pub walk-returns-in-Ok : goal.walk-returns-in-Ok
walk-returns-in-Ok t c =
    let tag = c.in-Element.tag in
    let is = ap tree c.in-Element.is ∙ view_element tag c.in-Element.attrs c.in-Element.content in
    let same = element_walked c.args.roots.now tag c.in-Element.attrs.items c.deref.result.now (trees c.in-Element.content.items) (trees c.deref-in-Ok.result.now) (tree c.args.html.now) c.args.least c.args.table.now is (ap trees c.deref-in-Ok.ensures.value) c.deref.ensures.value in
    of_same {A = Unit {0}} {B = Table} (λ _. c.walk_all.new.table) c.walk_all.result _ _ same
    (goes_on {A = ℕ × Table} {B = Table} {C = Unit {0}} (λ _. c.walk_all.new.table) c.walk_all.result (λ r. walked c.args.roots.now many (trees c.deref-in-Ok.result.now) r.0 r.1) c.in-Ok.ensures c.walk_all.ensures)

pub walk-returns-in-Err : goal.walk-returns-in-Err
walk-returns-in-Err t c =
    let tag = c.in-Element.tag in
    let is = ap tree c.in-Element.is ∙ view_element tag c.in-Element.attrs c.in-Element.content in
    let same = element_walked c.args.roots.now tag c.in-Element.attrs.items c.deref.result.now (trees c.in-Element.content.items) (trees c.in-Element.content.items) (tree c.args.html.now) c.args.least c.args.table.now is refl c.deref.ensures.value in
    of_same {A = Unit {0}} {B = Table} (λ _. c.enter.new.table) (Err c.in-Err.error) _ _ same
    (stops {A = ℕ × Table} {B = Table} {C = ℕ} {D = Unit {0}} (λ within. (within, c.enter.new.table)) (λ _. c.enter.new.table) c.in-Err.error
    (entered c.args.roots.now tag (value_at (codes "id") c.deref.result.now) c.args.least c.args.table.now) (λ r. walked c.args.roots.now many (trees c.in-Element.content.items) r.0 r.1) c.in-Err.ensures)

pub walk_all-loop-html-preserved : goal.walk_all-loop-html-preserved
walk_all-loop-html-preserved t c =
    let next = next_walked c.args.roots.now c.args.list.now c.loop-html.html-index c.html-item.result c.args.least c.loop-html.table c.loop-html-test.true c.html-item.is in
    sym (next ∙ ap (λ x. chain x (walked c.args.roots.now many (trees (drop (c.loop-html.html-index + 1) c.args.list.now)) c.args.least)) c.in_ok-walk.ensures) ∙ c.loop-html.invariant

pub walk_all-returns : goal.walk_all-returns
walk_all-returns t c = sym c.loop-html.invariant ∙ none_walked c.args.roots.now c.args.list.now c.loop-html.html-index c.args.least c.loop-html.table (omega arith)
