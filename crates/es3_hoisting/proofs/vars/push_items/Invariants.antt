use Rattle.std.proofs.Common.{◌≡◌, ◌++◌, drop}
use Rattle.es3_tree.specs.Tree as t
use Rattle.es3_language.specs.Hoisting.{vars_in}
use Rattle.es3_moves.specs.Code.{names_of, plain_vars}
use Rattle.es3_hoisting.proofs.vars.push_items.Given as goal

abbrev pub invariant-loop-item : goal.invariant-loop-item
invariant-loop-item l = names_of l.names.items ++ vars_in t.items (plain_vars (drop l.item-index l.items)) ≡ names_of l.fn.names.items ++ vars_in t.items (plain_vars l.items)
