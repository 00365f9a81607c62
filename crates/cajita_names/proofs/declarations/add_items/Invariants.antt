-- What was declared so far, and by what is left.
use Rattle.std.proofs.Common.{◌≡◌, ◌++◌, drop}
use Rattle.es3_tree.specs.Tree as tree
use Rattle.es3_tree.specs.PlacedView as source
use Rattle.cajita_names.specs.Declarations.{declarations}
use Rattle.cajita_names.proofs.declarations.add_items.Given as goal

abbrev pub invariant-loop-item : goal.invariant-loop-item
invariant-loop-item l =
    l.out ++ declarations tree.items (source.of_items (drop l.item-index l.items))
    ≡ l.initial.out ++ declarations tree.items (source.of_items l.items)
