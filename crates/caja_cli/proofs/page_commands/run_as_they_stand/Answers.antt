use Rattle.std.proofs.Common.{◌≡◌, ◌++◌, [], true, map, rules, ap, subst, ◌∙◌}
use Rattle.es3_tree.specs.View.{program}
use Rattle.manifest_deeds.specs.Names.{page_names}
use Rattle.page_cajole.specs.PageAnswers.{runnable}
use Rattle.page_manifest.specs.View.{page, style}
use Rattle.page_documents.specs.Documents.{page_doc}
use Rattle.page_meaning.specs.PageRuns.{run_in}
use Rattle.page_runner.specs.Outcome.{Shows}
use Rattle.page_runner.specs.Texts.{texts_store}
use Rattle.caja_cli.specs.Output.{programs_in, framed_groups, framed_html, end_line, end_status}
use Rattle.caja_cli.proofs.Planned.{its_styles, styles_are, shown, parts_of}
use Rattle.caja_cli.proofs.page_commands.run_as_they_stand.Goals as goal

pub returns-clause-text : goal.returns-clause-text
returns-clause-text c = λ ts has.
    let p = page c.args.page in
    let qs = programs_in (map runnable c.args.texts.items) in
    let touching = c.args.options.touch in
    let o = c.in_ok-outcome.outcome in
    let steps : c.from.result ≡ c.args.options.steps = search rules in
    let shows : Shows (page_names p) (run_in texts_store p (page_doc p ts) qs touching c.args.options.steps) o = subst (λ n. Shows (page_names p) (run_in texts_store p (page_doc p ts) qs touching n) o) steps (shown texts_store p ts c.args.found c.in_ok-plan.plan (map program c.in_ok-programs_of.field-0.items) qs touching c.from.result o c.requires.found has c.in_ok-plan.ensures.deeds c.in_ok-programs_of.ensures c.in_ok-plan.ensures.names c.in_ok-plan.ensures.modules c.in_ok-plan.ensures.cells c.in_ok-plan.ensures.document c.in_ok-plan.ensures.urls c.in_ok-outcome.ensures) in
    let before = c.push_page_groups.new.out.items in
    let styles : c.push_styles.new.out.items ≡ c.new-out.result.items ++ its_styles p = styles_are p c.args.found c.new-out.result.items c.push_styles.new.out.items c.deref.result.now c.deref-2.result.now c.requires.found (ap (map style) c.deref.ensures.value) c.deref-2.ensures.value c.in_ok-push_styles.ensures in
    let groups : before ≡ [] ++ (its_styles p ++ framed_groups true p) = c.in_ok-push_page_groups.ensures ∙ ap (λ l. l ++ framed_groups true p) (styles ∙ ap (λ l. l ++ its_styles p) c.new-out.ensures.items) in
    let log : c.extend_from_slice.new.self.items ≡ before ++ o.log.items = c.in_ok-extend_from_slice.ensures.items ∙ ap (λ l. before ++ l) c.deref-3.ensures.value in
    parts_of true p (run_in texts_store p (page_doc p ts) qs touching c.args.options.steps) o [] before c.push_end.new.out.items shows groups (c.in_ok-push_end.ensures ∙ ap (λ l. l ++ (framed_html true c.deref-4.result.now ++ end_line o.end)) log ∙ ap (λ l. (before ++ o.log.items) ++ (framed_html true l ++ end_line o.end)) c.deref-4.ensures.value)

pub returns-clause-status : goal.returns-clause-status
returns-clause-status c = λ ts has.
    let p = page c.args.page in
    let qs = programs_in (map runnable c.args.texts.items) in
    let touching = c.args.options.touch in
    let o = c.in_ok-outcome.outcome in
    let steps : c.from.result ≡ c.args.options.steps = search rules in
    let shows : Shows (page_names p) (run_in texts_store p (page_doc p ts) qs touching c.args.options.steps) o = subst (λ n. Shows (page_names p) (run_in texts_store p (page_doc p ts) qs touching n) o) steps (shown texts_store p ts c.args.found c.in_ok-plan.plan (map program c.in_ok-programs_of.field-0.items) qs touching c.from.result o c.requires.found has c.in_ok-plan.ensures.deeds c.in_ok-programs_of.ensures c.in_ok-plan.ensures.names c.in_ok-plan.ensures.modules c.in_ok-plan.ensures.cells c.in_ok-plan.ensures.document c.in_ok-plan.ensures.urls c.in_ok-outcome.ensures) in
    c.end_status.ensures ∙ ap end_status shows.ended
