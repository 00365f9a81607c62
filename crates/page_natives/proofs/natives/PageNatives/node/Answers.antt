use Rattle.std.proofs.Common.{◌≡◌, ◌++◌, Option, rules, subst}
use Rattle.std.specs.Option.{option_copied}
use Rattle.url.specs.Parts.{Parts}
use Rattle.url_rule.specs.Table.{rows_of}
use Rattle.html_urls.specs.Answers.{for_documents}
use Rattle.row_outcomes.specs.Comes.{Comes}
use Rattle.page_log.specs.Items.{all_told}
use Rattle.tamed_dom.specs.Ends.{done_of, Leaves}
use Rattle.tamed_dom.specs.Methods.{node_turn}
use Rattle.page_natives.specs.Nodes.{changes_told}
use Rattle.page_natives.specs.Natives.{kept_of}
use Rattle.page_natives.proofs.NodeMethods.{node_answers, kept_is}
use Rattle.page_natives.proofs.natives.PageNatives.node.Goals as goal

pub returns-clause-answers : goal.returns-clause-answers
returns-clause-answers c =
    let z = kept_of c.args.self.now in
    let turn = λ (b : Option Parts). node_turn (for_documents (rows_of c.args.self.now.urls.table.items) b) c.args.method c.args.by c.args.this.now c.args.args.now c.args.h.now z.dom in
    let y = c.node_row-outcome.new.d in
    let told : all_told c.tell_change.new.told.items ≡ z.told ++ changes_told c.take_change-change.result = search rules in
    let kept = kept_is z (all_told c.tell_change.new.told.items) c.take_change-change.new.self y c.take_change-change.result told c.take_change-change.ensures.line c.take_change-change.ensures.taken in
    let base : option_copied c.as_ref-base.result ≡ c.args.self.now.base = search rules in
    let comes = subst (λ b. Comes (done_of (turn b)) c.node_row-outcome.result c.node_row-outcome.new.h) base c.node_row-outcome.ensures.outcome in
    let leaves = subst (λ b. Leaves c.node_row-outcome.result (turn b).state y) base c.node_row-outcome.ensures.dom in
    node_answers (turn c.args.self.now.base) z _ y c.node_row-outcome.result c.node_row-outcome.new.h comes leaves kept
