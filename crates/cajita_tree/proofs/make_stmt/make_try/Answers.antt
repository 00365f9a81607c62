use Rattle.cajita_tree.proofs.Rows.{view_try}
use Rattle.cajita_tree.proofs.make_stmt.make_try.Goals as goal

pub returns : goal.returns
returns c = view_try c.args.body c.args.handler c.args.last
