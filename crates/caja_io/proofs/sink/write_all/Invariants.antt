use Rattle.std.proofs.Common.{length, ◌-◌, ◌≡◌, ◌≤◌, take}
use Rattle.caja_io.specs.Sink.{Appends}
use Rattle.caja_io.proofs.sink.write_all.Given as goal

abbrev pub invariant-loop-at : goal.invariant-loop-at
invariant-loop-at g l = record {
  within : l.at ≤ length l.bytes;
  appended : Appends (g.K.Sink.written l.fn.sink) (g.K.Sink.written l.sink) (take l.at l.bytes);
  faults : g.K.Sink.faults l.fn.sink ≤ g.K.Sink.faults l.sink;
  empty_writes : g.K.Sink.empty_writes l.fn.sink ≤ g.K.Sink.empty_writes l.sink;
  untouched : l.at ≡ 0 → l.sink ≡ l.fn.sink;
}

abbrev pub decreases-loop-at : goal.decreases-loop-at
decreases-loop-at g l = length l.bytes - l.at
