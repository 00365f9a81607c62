use Rattle.std.proofs.Common.{refl, sym, ap, ◌∙◌, ◌||◌}
use Rattle.es3_tree.specs.Tree as t
use Rattle.es3_tree.specs.PlacedView.{of_cases}
use Rattle.es3_grammar.specs.Plain.{deep}
use Rattle.es3_grammar.specs.Sums.{capped}
use Rattle.es3_frames.proofs.Depths.{of_two}
use Rattle.es3_frames.proofs.Rows.{cases_deeper, default_known}
use Rattle.es3_frames.proofs.parts.Clauses.with.Goals.{then-has_default, else-has_default}
use Rattle.es3_frames.proofs.parts.Clauses.with.Goals as goal

pub invariant_of-result : goal.invariant_of-result
invariant_of-result c =
    let b = c.is_none-is_default.result in
    let test = c.args.test.right ∙ ap (λ x. capped (deep t.maybe_expr x)) (sym c.unboxed-tree.ensures) in
    record {
      right =
          of_two _ _ _ _ _ _ (of_two _ _ _ _ _ _ c.args.self.right test c.max.ensures refl) c.args.body.right c.max-2.ensures
          (ap (λ xs. deep t.cases (of_cases xs)) c.in_ok-push.ensures.items ∙ cases_deeper c.args.self.list.items _);
      known =
          default_known c.args.self.list.items _ _ c.args.self.has_default b _ c.args.self.known c.is_none-is_default.ensures c.in_ok-push.ensures.items
          (elim c.if-has_default.branch [
            | then-has_default w ↦ w.result-is ∙ w.if-has_default.true ∙ ap (λ a. a || b) (sym w.if-has_default.true)
            | else-has_default w ↦ w.result-is ∙ ap (λ a. a || b) (sym w.if-has_default.false)
          ]);
    }
