-- The names so far, and those that are left.
use Rattle.std.proofs.Common.{◌≡◌, drop}
use Rattle.cajita_tree.specs.Tree as tree
use Rattle.cajita_tree.specs.View as source
use Rattle.cajita_rewrite.specs.Rewrite.{declared}
use Rattle.cajita_rewrite.specs.Table.{with_all}
use Rattle.cajita_rewrite.proofs.declared.add_items.Given as goal

abbrev pub invariant-loop-item : goal.invariant-loop-item
invariant-loop-item l = with_all l.names (declared tree.items (source.of_items (drop l.item-index l.items))) ≡ with_all l.initial.names (declared tree.items (source.of_items l.items))
