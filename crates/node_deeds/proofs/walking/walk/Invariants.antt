use Rattle.std.proofs.Common.{◌≡◌, ◌++◌, ◌∷◌, length}
use Rattle.doc_nodes.specs.Rows.{row_at, children_in}
use Rattle.node_deeds.specs.Walk.{walk, all_visits}
use Rattle.node_deeds.proofs.walking.walk.Given as goal

abbrev pub invariant-nodes : goal.invariant-nodes
invariant-nodes l = l.list.items ++ all_visits l.document l.pending.items ≡ l.fn.n ∷ walk l.fn.levels l.document (children_in (row_at l.document l.fn.n))

abbrev pub decreases-nodes : goal.decreases-nodes
decreases-nodes l = length (all_visits l.document l.pending.items)
