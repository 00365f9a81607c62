use Rattle.std.proofs.Common.{rules}
use Rattle.cajita_tree.specs.declared.CExpr.{the_lemmas}
use Rattle.cajita_tree.proofs.Rows.{view_body}
use Rattle.cajita_tree.proofs.make_stmt.make_body.Goals as goal

pub returns : goal.returns
returns c = search (rules, the_lemmas, view_body)
