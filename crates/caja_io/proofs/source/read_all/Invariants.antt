use Rattle.std.proofs.Common.{◌≡◌, ◌≤◌, ◌-◌, length, vec_len}
use Rattle.caja_io.specs.Source.{Takes}
use Rattle.caja_io.proofs.source.read_all.Given as goal

abbrev pub invariant-loop-all : goal.invariant-loop-all
invariant-loop-all g l = record {
  within : vec_len l.all ≤ l.limit;
  taken : Takes (g.S.Source.left l.fn.source) (g.S.Source.left l.source) l.all.items;
  faults : g.S.Source.faults l.fn.source ≤ g.S.Source.faults l.source;
  buffer : length l.buffer ≡ 4096;
}

abbrev pub decreases-loop-all : goal.decreases-loop-all
decreases-loop-all g l = l.limit - vec_len l.all
