use Rattle.std.proofs.Common.{Some, ap, ◌∙◌, arith}
use Rattle.es3_tree.specs.Placed as placed
use Rattle.es3_tree.specs.PlacedView.{expr}
use Rattle.es3_tree.specs.declared.UnOp.TheVariants.{Minus}
use Rattle.es3_ops.specs.declared.grouping.Infix.TheVariants.{Or}
use Rattle.es3_ops.proofs.Adding.{parts_fit, parts_of}
use Rattle.language_tests.proofs.grouping_rows.an_operand_nests_below_its_operator.Goals as goal

pub add-requires-clause-fits : goal.add-requires-clause-fits
add-requires-clause-fits g c =
    parts_fit c.in_ok-ops.ops (placed.unary Minus placed.null 0) Or (c.in_ok-ops.ensures.1 ∙ ap Some (c.make_unary-negative.ensures.with_places ∙ ap (λ x. placed.unary Minus (expr x) 0) c.in_ok-null.ensures))
    (omega (arith, ap parts_of c.in_ok-ops.ensures.0))
