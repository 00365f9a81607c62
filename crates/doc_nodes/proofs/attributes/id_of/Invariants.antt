use Rattle.std.proofs.Common.{◌≡◌, drop}
use Rattle.std.specs.Prelude.{codes}
use Rattle.doc_nodes.specs.Rows.{value_at}
use Rattle.doc_nodes.proofs.attributes.id_of.Given as goal

abbrev pub invariant-loop-attr : goal.invariant-loop-attr
invariant-loop-attr l = value_at (codes "id") l.attrs ≡ value_at (codes "id") (drop l.attr-index l.attrs)
