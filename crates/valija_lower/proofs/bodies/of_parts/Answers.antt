use Rattle.std.proofs.Common.{◌≡◌, ◌++◌, [], ap, ◌∙◌}
use Rattle.es3_tree.specs.PlacedView as source
use Rattle.cajita_names.specs.Once.{once_after, names_of, is_loop_variable}
use Rattle.valija_forms.specs.Forms.{declaring, temporaries_from, joined}
use Rattle.valija_parts.specs.Lower.{loop_names}
use Rattle.valija_lower.proofs.AtHand.{parts_at_hand, told_at}
use Rattle.valija_lower.proofs.bodies.of_parts.Goals as goal

pub returns : goal.returns
returns c f x before after =
    let functions = c.in_ok-functions.functions in
    let statements = c.in_ok-functions.statements in
    let there = parts_at_hand c.args.functions c.args.statements c.joined.result (functions, statements) c.joined.ensures c.in_ok-functions.was in
    let front = told_at c.args.functions (λ v. source.of_stmts v.items ≡ f) functions before there.0 in
    let rest = told_at c.args.statements (λ v. (source.of_stmts v.items, c.args.taken) ≡ x) statements after.told there.1 in
    c.in_ok-body_from.ensures
    ∙ ap (λ l. declaring (temporaries_from 0 c.args.taken ++ l) (joined (source.of_stmts functions.items) (source.of_stmts statements.items)))
    (c.deref.ensures.value
    ∙ c.in_ok-names.ensures
    ∙ ap (λ d. once_after [] (names_of is_loop_variable d)) c.in_ok-module_declarations.ensures)
    ∙ ap (λ z. declaring (temporaries_from 0 c.args.taken ++ loop_names (source.of_stmts c.args.body.now)) (joined z (source.of_stmts statements.items))) front
    ∙ ap (λ z. declaring (temporaries_from 0 z.1 ++ loop_names (source.of_stmts c.args.body.now)) (joined f z.0)) rest
