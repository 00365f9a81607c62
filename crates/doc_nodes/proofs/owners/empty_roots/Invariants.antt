use Rattle.std.proofs.Common.{◌≡◌, ◌++◌, ◌-◌, []}
use Rattle.std.specs.Prelude.{replicate}
use Rattle.doc_nodes.proofs.owners.empty_roots.Given as goal

abbrev pub invariant-loop-root : goal.invariant-loop-root
invariant-loop-root l = l.roots.items ++ replicate (l.count - l._root) [] ≡ replicate l.count []
