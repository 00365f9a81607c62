use Rattle.std.proofs.Common.{◌≡◌, drop, length}
use Rattle.freeze_marks.specs.Freezing.{deleted}
use Rattle.freeze_marks.proofs.freezing.delete_all.Given as goal

abbrev pub invariant-loop-key : goal.invariant-loop-key
invariant-loop-key l = record {
  store : deleted (drop l.key-index l.keys) l.o l.h ≡ deleted l.fn.keys l.o l.initial.h;
  live : length l.h.list ≡ length l.initial.h.list;
}
