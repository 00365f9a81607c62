use Rattle.std.proofs.Common.{◌≡◌, ◌++◌, length}
use Rattle.doc_nodes.specs.Rows.{row_at, children_in}
use Rattle.node_deeds.specs.Walk.{walk, all_visits}
use Rattle.node_deeds.proofs.walking.push_children.Given as goal

abbrev pub invariant-children : goal.invariant-children
invariant-children l = walk l.levels l.document l.list.items ++ all_visits l.document l.pending.items ≡ walk l.levels l.document (children_in (row_at l.document l.fn.n)) ++ all_visits l.document l.fn.pending.items

abbrev pub decreases-children : goal.decreases-children
decreases-children l = length l.list.items
