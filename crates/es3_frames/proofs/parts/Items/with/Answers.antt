use Rattle.std.proofs.Common.{ap, sym, ◌∙◌}
use Rattle.es3_tree.specs.Tree as t
use Rattle.es3_tree.specs.PlacedView.{of_items}
use Rattle.es3_grammar.specs.Plain.{deep}
use Rattle.es3_grammar.specs.Sums.{capped}
use Rattle.es3_frames.proofs.Depths.{of_two}
use Rattle.es3_frames.proofs.Rows.{items_deeper}
use Rattle.es3_frames.proofs.parts.Items.with.Goals as goal

pub invariant_of-result : goal.invariant_of-result
invariant_of-result c =
    let right = c.args.value.right ∙ ap (λ x. capped (deep t.maybe_expr x)) (sym c.unboxed.ensures) in
    record {
      right = of_two _ _ _ _ _ _ c.args.self.right right c.max.ensures (ap (λ xs. deep t.items (of_items xs)) c.in_ok-push.ensures.items ∙ items_deeper c.args.self.list.items _);
    }
