use Rattle.std.proofs.Common.{◌≡◌, length}
use Rattle.std.specs.Vec.Iter.{into_iter_items}
use Rattle.freeze_marks.specs.Records.{with_pairs}
use Rattle.freeze_marks.proofs.records.define_pairs.Given as goal

abbrev pub invariant-loop-key : goal.invariant-loop-key
invariant-loop-key l = record {
  store : with_pairs (into_iter_items l.key-iterator) l.o l.h ≡ with_pairs l.fn.pairs.items l.o l.initial.h;
  live : length l.h.list ≡ length l.initial.h.list;
}
