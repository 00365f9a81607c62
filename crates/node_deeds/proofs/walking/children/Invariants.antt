use Rattle.std.proofs.Common.{◌≡◌, ◌-◌, length, take}
use Rattle.doc_nodes.specs.Rows.{row_at, children_in}
use Rattle.node_deeds.proofs.walking.children.Given as goal

abbrev pub invariant-children : goal.invariant-children
invariant-children l = l.list.items ≡ take (length l.list.items) (children_in (row_at l.document l.n))

abbrev pub decreases-children : goal.decreases-children
decreases-children l = length (children_in (row_at l.document l.n)) - length l.list.items
