-- Those of the names so far that are declared nowhere stand behind the variables that were there.
use Rattle.std.proofs.Common.{◌≡◌, drop}
use Rattle.es3_tree.specs.Tree as target
use Rattle.es3_tree.specs.View.{of_items}
use Rattle.cajita_tree.specs.Tree as tree
use Rattle.cajita_tree.specs.View as source
use Rattle.cajita_rewrite.specs.Rewrite.{items_joined, name_items, others, declared}
use Rattle.cajita_rewrite.proofs.bodies.add_names.Given as goal

abbrev pub invariant-loop-name : goal.invariant-loop-name
invariant-loop-name l =
    items_joined (of_items l.items.items) (name_items (others (drop l.name-index l.names) (declared tree.stmts (source.of_stmts l.list))) target.no_items)
    ≡ items_joined (of_items l.initial.items.items) (name_items (others l.names (declared tree.stmts (source.of_stmts l.list))) target.no_items)
