use Rattle.std.proofs.Common.{◌≡◌, ℕ, ◌++◌, List, true, map, rules, sym, ap, subst, ◌∙◌, append-nil, append_assoc}
use Rattle.es3_tree.specs.View.{program}
use Rattle.manifest_deeds.specs.Names.{page_names}
use Rattle.module_loader.specs.Turns.{page_store}
use Rattle.page_cajole.specs.PageAnswers.{runnable}
use Rattle.page_manifest.specs.View.{page, style}
use Rattle.page_documents.specs.Documents.{page_doc}
use Rattle.page_meaning.specs.PageRuns.{run_in}
use Rattle.page_runner.specs.Outcome.{Shows}
use Rattle.caja_cli.specs.Output.{page_steps, module_parts, programs_in, framed_groups, framed_html, end_line, end_status}
use Rattle.caja_cli.proofs.Planned.{its_styles, styles_are, shown, parts_of}
use Rattle.caja_cli.proofs.page_commands.run_cajoled.Goals as goal
use Rattle.caja_cli.proofs.page_commands.run_cajoled.Goals.{then-framed+in_ok-push_page_groups, else-framed}

pub returns-clause-text : goal.returns-clause-text
returns-clause-text c = λ ts has.
    let p = page c.args.page in
    let framed = c.args.framed in
    let qs = programs_in (map runnable c.args.cajoled.items) in
    let touching = c.args.options.touch in
    let o = c.in_ok-outcome.outcome in
    let n = page_steps c.args.options.steps in
    let steps : c.from-steps.result ≡ c.args.options.steps = search rules in
    let shows : Shows (page_names p) (run_in page_store p (page_doc p ts) qs touching n) o = subst (λ s. Shows (page_names p) (run_in page_store p (page_doc p ts) qs touching s) o) (ap page_steps steps) (shown page_store p ts c.args.found c.in_ok-plan.plan (map program c.in_ok-programs_of.field-0.items) qs touching (page_steps c.from-steps.result) o c.requires.found has c.in_ok-plan.ensures.deeds c.in_ok-programs_of.ensures c.in_ok-plan.ensures.names c.in_ok-plan.ensures.modules c.in_ok-plan.ensures.cells c.in_ok-plan.ensures.document c.in_ok-plan.ensures.urls c.in_ok-outcome.ensures) in
    let texts : List ℕ = module_parts p.modules (map runnable c.args.cajoled.items) in
    let first : c.push_texts.new.out.items ≡ texts = c.in_ok-push_texts.ensures ∙ ap (λ l. l ++ module_parts p.modules (map runnable c.deref.result.now)) c.new-out.ensures.items ∙ ap (λ l. module_parts p.modules (map runnable l)) c.deref.ensures.value in
    let styles = its_styles p in
    let second : c.push_styles.new.out.items ≡ texts ++ styles = styles_are p c.args.found c.push_texts.new.out.items c.push_styles.new.out.items c.deref-2.result.now c.deref-3.result.now c.requires.found (ap (map style) c.deref-2.ensures.value) c.deref-3.ensures.value c.in_ok-push_styles.ensures ∙ ap (λ l. l ++ styles) first in
    let before = c.if-framed.out.items in
    let framed_is : before ≡ (texts ++ styles) ++ framed_groups framed p = elim c.if-framed.branch [
      | then-framed+in_ok-push_page_groups w ↦ ap (λ v. v.items) w.out-is ∙ w.in_ok-push_page_groups.ensures ∙ ap (λ l. l ++ framed_groups true p) second ∙ ap (λ b. (texts ++ styles) ++ framed_groups b p) (sym w.if-framed.true)
      | else-framed w ↦ ap (λ v. v.items) w.out-is ∙ second ∙ sym (append-nil (texts ++ styles)) ∙ ap (λ b. (texts ++ styles) ++ framed_groups b p) (sym w.if-framed.false)
    ] in
    let groups : before ≡ texts ++ (styles ++ framed_groups framed p) = framed_is ∙ append_assoc texts styles (framed_groups framed p) in
    let log : c.extend_from_slice.new.self.items ≡ before ++ o.log.items = c.in_ok-extend_from_slice.ensures.items ∙ ap (λ l. before ++ l) c.deref-4.ensures.value in
    parts_of framed p (run_in page_store p (page_doc p ts) qs touching n) o texts before c.push_end.new.out.items shows groups (c.in_ok-push_end.ensures ∙ ap (λ l. l ++ (framed_html framed c.deref-5.result.now ++ end_line o.end)) log ∙ ap (λ l. (before ++ o.log.items) ++ (framed_html framed l ++ end_line o.end)) c.deref-5.ensures.value)

pub returns-clause-status : goal.returns-clause-status
returns-clause-status c = λ ts has.
    let p = page c.args.page in
    let qs = programs_in (map runnable c.args.cajoled.items) in
    let touching = c.args.options.touch in
    let o = c.in_ok-outcome.outcome in
    let steps : c.from-steps.result ≡ c.args.options.steps = search rules in
    let shows : Shows (page_names p) (run_in page_store p (page_doc p ts) qs touching (page_steps c.args.options.steps)) o = subst (λ s. Shows (page_names p) (run_in page_store p (page_doc p ts) qs touching s) o) (ap page_steps steps) (shown page_store p ts c.args.found c.in_ok-plan.plan (map program c.in_ok-programs_of.field-0.items) qs touching (page_steps c.from-steps.result) o c.requires.found has c.in_ok-plan.ensures.deeds c.in_ok-programs_of.ensures c.in_ok-plan.ensures.names c.in_ok-plan.ensures.modules c.in_ok-plan.ensures.cells c.in_ok-plan.ensures.document c.in_ok-plan.ensures.urls c.in_ok-outcome.ensures) in
    c.end_status.ensures ∙ ap end_status shows.ended
