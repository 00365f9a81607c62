-- What is left decides.
use Rattle.std.proofs.Common.{◌≡◌, drop}
use Rattle.es3_tree.specs.Tree as tree
use Rattle.es3_tree.specs.PlacedView as source
use Rattle.cajita_forms.specs.Arguments.{names_arguments}
use Rattle.cajita_forms.proofs.arguments.named_in_items.Given as goal

abbrev pub invariant-loop-item : goal.invariant-loop-item
invariant-loop-item l = names_arguments tree.items (source.of_items (drop l.item-index l.items)) ≡ names_arguments tree.items (source.of_items l.items)
