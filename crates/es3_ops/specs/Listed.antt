-- The operands and operators that are read.
use Rattle.std.specs.Prelude.{[], ◌∷◌, ◌++◌, map, Option, Some, None, option_map}
use Rattle.es3_tree.specs.PlacedView.{expr}
use Rattle.es3_grammar.specs.Levels.{E, Join}
use Rattle.es3_ops.specs.declared.grouping.Infix.{Infix}
use Rattle.es3_ops.specs.declared.grouping.Ops.{Ops}
use Rattle.es3_ops.specs.Grouped.{Front}
use Rattle.es3_ops.specs.Views.{infix_join, item_of}

-- each operand that has an operator behind it, with that operator; and the operand behind these, where it is read
abbrev pub front_of : Ops → Front
front_of o = map item_of o.front.items

abbrev pub last_of : Ops → Option E
last_of o = option_map expr o.last

-- where this operator is behind the last operand
abbrev pub followed : Front → Option E → Join → Front
followed front None j = front
followed front (Some x) j = front ++ (x, j) ∷ []

abbrev pub front_with : Ops → Infix → Front
front_with o op = followed (front_of o) (last_of o) (infix_join op)
