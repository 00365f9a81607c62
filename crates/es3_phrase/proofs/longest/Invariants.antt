use Rattle.std.proofs.Common.{◌*◌, ◌≤◌}
use Rattle.es3_frames.specs.Views.{stack_of, state_of}
use Rattle.es3_phrase.proofs.Fronts.{LongestOn}
use Rattle.es3_phrase.proofs.longest.Given as goal

abbrev pub invariant-loop-before : goal.invariant-loop-before
invariant-loop-before l = record {
  on : LongestOn l.nest l.brackets l.before l.tokens l.best (state_of l.state (stack_of l.stack));
  few : l.brackets ≤ 2 * l.nest;
}
