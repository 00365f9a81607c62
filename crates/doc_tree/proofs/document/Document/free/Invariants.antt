use Rattle.std.proofs.Common.{◌≡◌}
use Rattle.std.specs.Vec.Iter.{into_iter_items}
use Rattle.doc_nodes.specs.Changes.{freed}
use Rattle.doc_tree.proofs.document.Document.free.Given as goal

abbrev pub invariant-loop-child : goal.invariant-loop-child
invariant-loop-child l = freed (into_iter_items l.child-iterator) l.self ≡ freed l.fn.children.items l.initial.self
