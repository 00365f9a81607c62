-- What the parts of lists say.
use Rattle.std.specs.Prelude.{map}
use Rattle.es3_tree.specs.PlacedView.{word, expr, stmt, of_maybe_expr}
use Rattle.es3_tree.specs.declared.Name.{Name}
use Rattle.es3_tree.specs.declared.Expr.{Expr}
use Rattle.es3_tree.specs.declared.VarItem.{VarItem}
use Rattle.es3_tree.specs.declared.Case.{Case}
use Rattle.es3_grammar.specs.Frames as m

abbrev pub field_of : Name × Expr → m.Field
field_of x = (word x.0, expr x.1)

abbrev pub item_of : VarItem → m.Item
item_of x = (word x.name, of_maybe_expr x.value)

abbrev pub clause_of : Case → m.Clause
clause_of x = (of_maybe_expr x.test, map stmt x.body.items)
