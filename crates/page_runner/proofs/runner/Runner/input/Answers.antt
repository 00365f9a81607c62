use Rattle.std.proofs.Common.{◌≡◌, rules, subst}
use Rattle.page_deeds.specs.Deeds.{to_input}
use Rattle.pages.specs.Pages.{turns_or_none}
use Rattle.doc_nodes.specs.Rows.{node_with}
use Rattle.dom_handlers.specs.declared.kinds.EventKind.TheVariants.{Input}
use Rattle.tamed_dom.specs.Lent.{Lent, object_of}
use Rattle.page_natives.specs.Natives.{kept_of}
use Rattle.page_runner.specs.Page.{evaluator, listeners, node_turns, value_put}
use Rattle.page_runner.specs.Runner.{results_of, Came}
use Rattle.page_runner.proofs.runner.Runner.input.Goals as goal

pub returns-clause-came : goal.returns-clause-came
returns-clause-came c = λ x here.
    let a = c.args.self.now in
    let root = c.args.root in
    let n = c.args.number in
    let put : c.put_value.new.dom ≡ value_put (node_with a.natives.dom.doc root n) c.args.text a.natives.dom = search (c.put_value.ensures, c.in_ok-map_err.was, c.map_err.ensures.cases, rules) in
    subst
    (λ (y : Lent). Came c.happen.result
    (turns_or_none (evaluator a.modules) (to_input c.args.event c.args.id root n c.args.text) (node_turns (object_of root n y) (listeners Input root n y)) a.left (results_of a.results.items) x (record (kept_of a.natives) { dom = y })) c.happen.new.self)
    put (c.happen.ensures.came c.args.text x here)
