-- What operators between operands are in the grammar, and lists of them.
use Rattle.std.specs.Prelude.{ℕ}
use Rattle.es3_tree.specs.declared.Expr.{Expr}
use Rattle.es3_tree.specs.PlacedView.{expr}
use Rattle.es3_grammar.specs.Levels as l
use Rattle.es3_ops.specs.declared.grouping.Infix.{Infix}
use Rattle.es3_ops.specs.declared.grouping.Infix.TheVariants as i

abbrev pub infix_join : Infix → l.Join
infix_join (i.Op op) = l.an_op op
infix_join i.And = l.an_and
infix_join i.Or = l.an_or

-- an operand with the operator behind it; an operator with its left part; the level of one, and how deep its left part nests
abbrev pub item_of : Expr × Infix → l.E × l.Join
item_of (x, op) = (expr x, infix_join op)

abbrev pub left_of : Expr × Infix → l.Join × l.E
left_of (x, op) = (infix_join op, expr x)

abbrev pub depth_of : ℕ × Infix → ℕ × ℕ
depth_of (d, op) = (l.own (infix_join op), d)
