use Rattle.std.proofs.Common.{◌*◌, ◌≤◌}
use Rattle.es3_frames.specs.Views.{stack_of, state_of}
use Rattle.es3_stmt.proofs.Readings.{ReadingOn}
use Rattle.es3_stmt.proofs.read.read_program.Given as goal

abbrev pub invariant-loop-token : goal.invariant-loop-token
invariant-loop-token l = record {
  reads : ReadingOn l.nest l.brackets l.token-index l.token-items (state_of l.state (stack_of l.stack));
  few : l.brackets ≤ 2 * l.nest;
}
