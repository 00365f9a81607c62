use Rattle.es3_tree.proofs.Rows.{view_try}
use Rattle.es3_tree.proofs.PlacedRows.{placed_try}
use Rattle.es3_tree.proofs.make_stmt.make_try.Goals as goal

pub returns : goal.returns
returns c = record {
  plain = view_try c.args.body c.args.handler c.args.last;
  with_places = placed_try c.args.body c.args.handler c.args.last;
}
