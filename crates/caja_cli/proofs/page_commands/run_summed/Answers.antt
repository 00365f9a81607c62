use Rattle.std.proofs.Common.{◌≡◌, ◌++◌, length, map, rules, sym, ap, subst, ◌∙◌}
use Rattle.std.proofs.lemmas.List.{length-map}
use Rattle.es3_tree.specs.View.{program}
use Rattle.event_script.specs.Events.{asked}
use Rattle.manifest_deeds.specs.Names.{page_names}
use Rattle.module_loader.specs.Turns.{page_store}
use Rattle.page_cajole.specs.PageAnswers.{runnable}
use Rattle.page_manifest.specs.View.{page, module_spec}
use Rattle.page_documents.specs.Documents.{page_doc}
use Rattle.page_meaning.specs.PageRuns.{run_in}
use Rattle.page_runner.specs.Outcome.{Shows, lines_of}
use Rattle.caja_cli.specs.Output.{page_steps, programs_in, end_status, summary}
use Rattle.caja_cli.proofs.Planned.{shown}
use Rattle.caja_cli.proofs.page_commands.run_summed.Goals as goal

pub returns-clause-text : goal.returns-clause-text
returns-clause-text c = λ ts has.
    let p = page c.args.page in
    let qs = programs_in (map runnable c.args.cajoled.items) in
    let touching = c.args.options.touch in
    let o = c.in_ok-outcome.outcome in
    let n = c.args.wanted in
    let steps : c.from-steps.result ≡ c.args.options.steps = search rules in
    let shows : Shows (page_names p) (run_in page_store p (page_doc p ts) qs touching (page_steps c.args.options.steps)) o = subst (λ s. Shows (page_names p) (run_in page_store p (page_doc p ts) qs touching s) o) (ap page_steps steps) (shown page_store p ts c.args.found c.in_ok-plan.plan (map program c.in_ok-programs_of.field-0.items) qs touching (page_steps c.from-steps.result) o c.requires.found has c.in_ok-plan.ensures.deeds c.in_ok-programs_of.ensures c.in_ok-plan.ensures.names c.in_ok-plan.ensures.modules c.in_ok-plan.ensures.cells c.in_ok-plan.ensures.document c.in_ok-plan.ensures.urls c.in_ok-outcome.ensures) in
    let modules : c.len-modules.result ≡ length c.args.page.modules.items = search rules in
    let events : c.len-events.result ≡ length c.args.page.events.items = search rules in
    c.in_ok-push_summary.ensures
    ∙ ap (λ l. l ++ summary n c.len-modules.result c.len-events.result o.lines o.end) c.new-out.ensures.items
    ∙ ap (λ k. summary n k c.len-events.result o.lines o.end) (modules ∙ sym (length-map c.args.page.modules.items module_spec))
    ∙ ap (λ k. summary n (length p.modules) k o.lines o.end) (events ∙ sym (length-map c.args.page.events.items asked))
    ∙ ap (λ k. summary n (length p.modules) (length p.events) k o.end) shows.lines
    ∙ ap (λ e. summary n (length p.modules) (length p.events) (lines_of (run_in page_store p (page_doc p ts) qs touching (page_steps c.args.options.steps))) e) shows.ended

pub returns-clause-status : goal.returns-clause-status
returns-clause-status c = λ ts has.
    let p = page c.args.page in
    let qs = programs_in (map runnable c.args.cajoled.items) in
    let touching = c.args.options.touch in
    let o = c.in_ok-outcome.outcome in
    let steps : c.from-steps.result ≡ c.args.options.steps = search rules in
    let shows : Shows (page_names p) (run_in page_store p (page_doc p ts) qs touching (page_steps c.args.options.steps)) o = subst (λ s. Shows (page_names p) (run_in page_store p (page_doc p ts) qs touching s) o) (ap page_steps steps) (shown page_store p ts c.args.found c.in_ok-plan.plan (map program c.in_ok-programs_of.field-0.items) qs touching (page_steps c.from-steps.result) o c.requires.found has c.in_ok-plan.ensures.deeds c.in_ok-programs_of.ensures c.in_ok-plan.ensures.names c.in_ok-plan.ensures.modules c.in_ok-plan.ensures.cells c.in_ok-plan.ensures.document c.in_ok-plan.ensures.urls c.in_ok-outcome.ensures) in
    c.end_status.ensures ∙ ap end_status shows.ended
