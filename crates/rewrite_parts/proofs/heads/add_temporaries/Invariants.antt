-- The temporaries so far stand behind the variables that were there.
use Rattle.std.proofs.Common.{◌≡◌}
use Rattle.es3_tree.specs.Tree as tree
use Rattle.es3_tree.specs.View.{of_items}
use Rattle.rewrite_parts.specs.Parts.{items_joined, temp_items}
use Rattle.rewrite_parts.proofs.heads.add_temporaries.Given as goal

abbrev pub invariant-loop-number : goal.invariant-loop-number
invariant-loop-number l = of_items l.items.items ≡ items_joined (of_items l.initial.items.items) (temp_items 0 l.number tree.no_items)
