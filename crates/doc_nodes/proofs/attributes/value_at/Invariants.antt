use Rattle.std.proofs.Common.{◌≡◌, drop}
use Rattle.doc_nodes.specs.Rows.{value_at}
use Rattle.doc_nodes.proofs.attributes.value_at.Given as goal

abbrev pub invariant-loop-attr : goal.invariant-loop-attr
invariant-loop-attr l = value_at l.name l.attrs ≡ value_at l.name (drop l.attr-index l.attrs)
