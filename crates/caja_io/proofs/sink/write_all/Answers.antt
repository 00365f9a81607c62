use Rattle.std.proofs.Common.{◌≡◌, ◌-◌, length, take, drop, arith}
use Rattle.std.proofs.Math.Seq.{take-add}
use Rattle.std.proofs.lemmas.Grind.{common_steps}
use Rattle.caja_io.proofs.Known.{Appends-append}
use Rattle.caja_io.proofs.sink.write_all.Goals as goal

pub loop-at-preserved : goal.loop-at-preserved
loop-at-preserved g c =
    let bytes = c.args.bytes.now in
    let rest : take (length bytes - c.loop-at.at) (drop c.loop-at.at bytes) ≡ drop c.loop-at.at bytes = grind (arith, common_steps) in
    let kept = c.loop-at.invariant in
    record {
      within = grind (arith, common_steps);
      appended = rw take-add (Appends-append _ _ _ _ _ kept.appended (rw rest at c.in_ok-count.ensures.appends));
      faults = omega arith;
      empty_writes = omega arith;
      untouched = λ e. absurd (c.if-count-eq0.false (omega arith));
    }
