use Rattle.std.proofs.Common.{◌≡◌, ◌≤◌, drop, length}
use Rattle.es3_language.specs.Arguments.{with_items}
use Rattle.es3_moves.specs.Code.{names_of}
use Rattle.es3_references.proofs.arguments.define_items.Given as goal

abbrev pub invariant-loop-i : goal.invariant-loop-i
invariant-loop-i l = record {
  items : with_items l.object l.i (drop l.i (names_of l.params)) (drop l.i l.args) l.names l.h ≡ with_items l.object 0 (names_of l.params) l.args l.names l.fn.h;
  live : length l.fn.h.list ≤ length l.h.list;
}
