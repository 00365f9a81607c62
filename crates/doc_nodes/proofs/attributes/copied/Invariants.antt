use Rattle.std.proofs.Common.{◌≡◌, take}
use Rattle.doc_nodes.proofs.attributes.copied.Given as goal

abbrev pub invariant-loop-attr : goal.invariant-loop-attr
invariant-loop-attr l = l.list.items ≡ take l.attr-index l.attrs
