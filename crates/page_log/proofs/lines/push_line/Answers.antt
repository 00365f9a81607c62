use Rattle.std.proofs.Common.{◌≡◌, ◌++◌, sym, ap, ◌∙◌, subst}
use Rattle.std.specs.Prelude.{OnOk}
use Rattle.page_log.specs.Items.{names_of, told_of}
use Rattle.page_log.specs.Log.{line}
use Rattle.page_log.proofs.Changes.{line_of_change}
use Rattle.page_log.proofs.lines.push_line.Goals as goal

pub returns-in-Changed : goal.returns-in-Changed
returns-in-Changed c =
    let names = names_of c.args.names.now in
    let lines = line_of_change names c.in-Changed.change ∙ ap (λ i. line names (told_of i)) (sym c.in-Changed.is) in
    subst (λ l. OnOk c.push_change.result (c.push_change.new.out.items ≡ c.args.out.now.items ++ l)) lines
    (rw (← c.deref-in-Changed.ensures.value) c.push_change.ensures)
