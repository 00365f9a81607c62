use Rattle.heap_rows.specs.Opening.{globals_id, runtime_id}
use Rattle.module_loader.specs.Turns.{page_objects, page_lent}
use Rattle.page_log.specs.Items.{names_of}
use Rattle.page_runner.specs.Deeds.{deeds_of}
use Rattle.page_runner.specs.Outcome.{rule_of}
use Rattle.page_runner.proofs.Opened.{shows_over}
use Rattle.page_runner.proofs.running.run_page.Goals as goal

pub returns : goal.returns
returns c =
    let p = c.args.page in
    let o = c.in_ok-opened.opened in
    shows_over (names_of p.names) p.modules (deeds_of p.deeds.items) c.args.touching (rule_of p) c.args.steps c.run_opened.result o.heap (page_objects p.modules p.cells p.document) o.globals globals_id o.runtime runtime_id o.dom (page_lent p.modules p.cells p.document)
    c.in_ok-opened.ensures.heap c.in_ok-opened.ensures.globals c.in_ok-opened.ensures.runtime c.in_ok-opened.ensures.dom c.run_opened.ensures
