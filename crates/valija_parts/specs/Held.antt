-- What a part in a box says, and a list.
use Rattle.std.specs.Prelude.{List}
use Rattle.std.specs.Global.{Box, Vec}
use Rattle.es3_tree.specs.declared.Name.{Name}
use Rattle.es3_tree.specs.declared.Expr.{Expr}
use Rattle.es3_tree.specs.declared.Stmt.{Stmt}
use Rattle.es3_tree.specs.declared.Case.{Case}
use Rattle.es3_tree.specs.declared.VarItem.{VarItem}
use Rattle.es3_tree.specs.Tree as t
use Rattle.es3_tree.specs.Placed.{Placed}
use Rattle.es3_tree.specs.PlacedView as source

abbrev pub expr : Box Expr → Placed t.expr
expr x = source.expr x.value

abbrev pub stmt : Box Stmt → Placed t.stmt
stmt x = source.stmt x.value

abbrev pub exprs : Vec Expr → Placed t.exprs
exprs v = source.of_exprs v.items

abbrev pub fields : Vec (Name × Expr) → Placed t.fields
fields v = source.of_fields v.items

abbrev pub stmts : Vec Stmt → Placed t.stmts
stmts v = source.of_stmts v.items

abbrev pub items : Vec VarItem → Placed t.items
items v = source.of_items v.items

abbrev pub cases : Vec Case → Placed t.cases
cases v = source.of_cases v.items
