use Rattle.std.proofs.Common.{◌≡◌, sym, ap, subst, map, true, ◌∙◌, IfOk}
use Rattle.es3_tree.specs.Tree as t
use Rattle.es3_tree.specs.Placed as tree
use Rattle.es3_tree.specs.PlacedView.{expr, func, stmt, word_of, words}
use Rattle.es3_grammar.specs.Frames.{have}
use Rattle.es3_grammar.specs.Machine.{func_made, func_of}
use Rattle.es3_frames.specs.Views.{head_of, stack_of, state_of}
use Rattle.es3_frames.proofs.Rows.{stmts_mapped}
use Rattle.es3_steps.proofs.function.func_made.Goals as goal

pub returns-then-head : goal.returns-then-head
returns-then-head c =
    let h = c.args.head in
    let ps = c.args.params.items in
    let xs = c.args.body.list.items in
    let f = func_of (head_of h) (words ps) (map stmt xs) in
    let k = stack_of c.args.stack.now in
    let r = c.declare.result in
    let j = stack_of c.declare.new.stack in
    subst (λ b. IfOk r (λ s. state_of s j ≡ func_made b f k)) (sym c.if-head.true)
    (subst (λ (ss : tree.Placed t.stmts). IfOk r (λ s. state_of s j ≡ func_made true (tree.fun (word_of h.name) (words ps) ss h.at) k)) (stmts_mapped xs) c.declare.ensures)

pub returns : goal.returns
returns c =
    let h = c.args.head in
    let ps = c.args.params.items in
    let xs = c.args.body.list.items in
    let f = func_of (head_of h) (words ps) (map stmt xs) in
    let k = stack_of c.args.stack.now in
    ap (λ x. have x k) (ap expr c.in_ok-made.ensures ∙ c.make_function-tree.ensures.with_places ∙ ap (λ g. tree.function (func g)) c.in_ok-boxed.ensures ∙ ap (λ ss. tree.function (tree.fun (word_of h.name) (words ps) ss h.at)) (stmts_mapped xs))
    ∙ sym (ap (λ b. func_made b f k) c.if-head.false)
