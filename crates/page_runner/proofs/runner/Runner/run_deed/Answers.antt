use Rattle.std.proofs.Common.{sym, subst}
use Rattle.pages.specs.Pages.{deed as deed_of_page}
use Rattle.page_runner.specs.Page.{evaluator}
use Rattle.page_runner.specs.Deeds.{deed_of}
use Rattle.page_runner.specs.Runner.{Came, From}
use Rattle.page_runner.specs.declared.deeds.Deed.{Deed}
use Rattle.page_runner.proofs.runner.Runner.run_deed.Goals as goal

pub returns-in-Call-clause-came : goal.returns-in-Call-clause-came
returns-in-Call-clause-came c =
    let p = c.args.self.now in
    subst (λ (d : Deed). From p (λ r x z n. Came c.call.result (deed_of_page (evaluator p.modules) (deed_of d) n r x z) c.call.new.self)) (sym c.in-Call.is) c.call.ensures.came

pub returns-in-Click-clause-came : goal.returns-in-Click-clause-came
returns-in-Click-clause-came c =
    let p = c.args.self.now in
    subst (λ (d : Deed). From p (λ r x z n. Came c.click.result (deed_of_page (evaluator p.modules) (deed_of d) n r x z) c.click.new.self)) (sym c.in-Click.is) c.click.ensures.came

pub returns-in-Input-clause-came : goal.returns-in-Input-clause-came
returns-in-Input-clause-came c =
    let p = c.args.self.now in
    subst (λ (d : Deed). From p (λ r x z n. Came c.input.result (deed_of_page (evaluator p.modules) (deed_of d) n r x z) c.input.new.self)) (sym c.in-Input.is) c.input.ensures.came
