-- The variables of a `var` that have a value.
use Rattle.std.specs.Prelude.{ℕ, List, Option, Some, None}
use Rattle.es3_tree.specs.Tree as t
use Rattle.es3_moves.specs.Code.{plain_expr, vars_at}
use Rattle.es3_moves.specs.declared.code.VarCode.{VarCode}
use Rattle.es3_statements.specs.declared.vars.Valued.{Valued}

-- the first variable that has a value, and what is behind it
abbrev pub valued : t.Tree t.items → Option (List ℕ × t.Tree t.expr × t.Tree t.items)
valued t.no_items = None
valued (t.more_items x t.no_expr rest) = valued rest
valued (t.more_items x (t.some_expr e) rest) = Some (x, e, rest)

abbrev pub plain_valued : List VarCode → Valued → List ℕ × t.Tree t.expr × t.Tree t.items
plain_valued items n = (n.name.value, plain_expr n.value.value, vars_at items n.next)
