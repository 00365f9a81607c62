use Rattle.std.proofs.Common.{ap, ◌∙◌}
use Rattle.es3_tree.specs.PlacedView.{of_stmts}
use Rattle.valija_forms.specs.Forms.{joined}
use Rattle.valija_forms.proofs.Growing.{stmts_behind}
use Rattle.valija_prelude.specs.Read.{prelude_statements}
use Rattle.page_cajole.proofs.dialects.lowered.Goals as goal

pub returns : goal.returns
returns c =
    ap of_stmts c.in_ok-append.ensures.items
    ∙ stmts_behind c.in_ok-whole.whole.body.items c.in_ok-statements.statements.items
    ∙ ap (λ x. joined x (of_stmts c.in_ok-statements.statements.items)) c.in_ok-whole.ensures
    ∙ ap (joined prelude_statements) c.in_ok-statements.ensures
