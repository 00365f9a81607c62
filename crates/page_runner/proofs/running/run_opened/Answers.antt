use Rattle.es3_machine.specs.Held.{new_store}
use Rattle.html_urls.specs.Answers.{for_documents}
use Rattle.url_rule.specs.Table.{rows_of}
use Rattle.page_log.specs.Items.{names_of}
use Rattle.page_natives.specs.Natives.{new_kept}
use Rattle.page_runner.specs.Deeds.{deeds_of}
use Rattle.page_runner.proofs.Ends.{begun_came, shown_so}
use Rattle.page_runner.proofs.running.run_opened.Goals as goal

pub returns : goal.returns
returns c =
    let kept = new_kept c.args.opened.runtime c.args.touching c.args.opened.dom (for_documents (rows_of c.args.urls.table.items) c.args.base) in
    let came =
    begun_came c.in_ok-runner.runner c.run_deeds-answer.new.self c.run_deeds-answer.result c.args.modules (deeds_of c.args.deeds.items) (new_store c.args.opened.heap c.args.opened.globals) kept c.args.steps c.in_ok-runner.ensures.here
    c.run_deeds-answer.ensures.came
    in
    shown_so c.show.result (names_of c.args.names) c.run_deeds-answer.result c.run_deeds-answer.new.self _ came c.show.ensures
