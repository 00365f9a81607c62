use Rattle.std.proofs.Common.{refl, ap, ◌∙◌, drop, codes, ◌+◌, arith}
use Rattle.es3_tree.specs.Tree as target
use Rattle.es3_tree.specs.View.{of_stmts}
use Rattle.cajita_tree.specs.View as source
use Rattle.cajita_rewrite.specs.Rewrite.{joined, marks, runtime_call, single}
use Rattle.cajita_rewrite.proofs.Grown.{stmts-turn, stmts-passed, stmts-end, marked, unmarked}
use Rattle.cajita_rewrite.proofs.bodies.add_marks.Goals as goal
use Rattle.cajita_rewrite.proofs.bodies.add_marks.Goals.{in-Some+in_ok-function+in_ok-runtime_call+in_ok-push, in_default}

pub loop-function-preserved : goal.loop-function-preserved
loop-function-preserved c =
    let rest = marks (source.of_funcs (drop (c.loop-function.function-index + 1) c.args.functions.now)) target.no_stmts in
    elim c.match-function.branch [
      | in-Some+in_ok-function+in_ok-runtime_call+in_ok-push w ↦
          stmts-turn (λ l. marks (source.of_funcs l) target.no_stmts) c.args.functions.now c.loop-function.function-index c.function-item.result c.loop-function.out.items c.match-function.out.items _ (omega arith) c.function-item.is
          (ap (λ v. v.items) w.out-is ∙ w.in_ok-push.ensures.items)
          (ap (λ e. target.more_stmts (target.expression e) rest) (w.in_ok-runtime_call.ensures ∙ ap (λ x. runtime_call (codes "func") (single x)) w.in_ok-function.ensures)
          ∙ marked c.function-item.result w.in-Some.name rest w.in-Some.is)
          ∙ c.loop-function.invariant
      | in_default w ↦
          ap (λ v. joined (of_stmts v.items) rest) w.out-is
          ∙ stmts-passed (λ l. marks (source.of_funcs l) target.no_stmts) c.args.functions.now c.loop-function.function-index c.function-item.result c.loop-function.out.items (omega arith) c.function-item.is (unmarked c.function-item.result rest w.in_default.is)
          ∙ c.loop-function.invariant
    ]

pub returns : goal.returns
returns c =
    stmts-end (λ l. marks (source.of_funcs l) target.no_stmts) c.args.functions.now c.loop-function.function-index c.loop-function.out.items (omega arith) refl ∙ c.loop-function.invariant
