use Rattle.std.proofs.Common.{true, false, sym, ◌∙◌, arith}
use Rattle.es3_references.proofs.Sharing.{own_at}
use Rattle.es3_references.proofs.arguments.parameter_at.Goals as goal

pub returns-then-comes_again : goal.returns-then-comes_again
returns-then-comes_again c =
    own_at c.args.i c.args.params.now c.index-params-i.result c.deref.result.now true (omega arith) c.index-params-i.is c.deref.ensures (sym c.if-comes_again.true ∙ c.comes_again.ensures)

pub returns-else-comes_again : goal.returns-else-comes_again
returns-else-comes_again c =
    own_at c.args.i c.args.params.now c.index-params-i.result c.deref.result.now false (omega arith) c.index-params-i.is c.deref.ensures (sym c.if-comes_again.false ∙ c.comes_again.ensures)
