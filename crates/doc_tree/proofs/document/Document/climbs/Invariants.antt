use Rattle.std.proofs.Common.{◌≡◌, ◌-◌, length, Some}
use Rattle.doc_nodes.specs.Rows.{climbs}
use Rattle.doc_tree.proofs.document.Document.climbs.Given as goal

abbrev pub invariant-loop-level : goal.invariant-loop-level
invariant-loop-level l = climbs (length l.self.rows) l.self l.c (Some l.fn.p) ≡ climbs (l._level-end - l._level) l.self l.c l.next
