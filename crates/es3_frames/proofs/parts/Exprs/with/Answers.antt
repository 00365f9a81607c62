use Rattle.std.proofs.Common.{ap, sym, ◌∙◌}
use Rattle.es3_tree.specs.Tree as t
use Rattle.es3_tree.specs.PlacedView.{expr, of_exprs}
use Rattle.es3_grammar.specs.Plain.{deep}
use Rattle.es3_grammar.specs.Sums.{capped}
use Rattle.es3_frames.proofs.Depths.{of_two}
use Rattle.es3_frames.proofs.Rows.{exprs_deeper}
use Rattle.es3_frames.proofs.parts.Exprs.with.Goals as goal

pub invariant_of-result : goal.invariant_of-result
invariant_of-result c =
    let right = c.args.part.right ∙ ap (λ x. capped (deep t.expr (expr x))) (sym c.into_inner.ensures) in
    record {
      right = of_two _ _ _ _ _ _ c.args.self.right right c.max.ensures (ap (λ xs. deep t.exprs (of_exprs xs)) c.in_ok-push.ensures.items ∙ exprs_deeper c.args.self.list.items _);
    }
