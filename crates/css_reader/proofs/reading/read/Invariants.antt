use Rattle.std.proofs.Common.{◌≡◌, ◌-◌, ◌≤◌, length, drop}
use Rattle.css_grammar.specs.Machine as m
use Rattle.css_tokens.specs.Views.{state_of}
use Rattle.css_reader.proofs.reading.read.Given as goal

abbrev pub invariant-loop-i : goal.invariant-loop-i
invariant-loop-i l = record {
  rest : m.run (drop l.i l.units) (state_of l.mode l.work) ≡ m.read l.units;
  within : l.i ≤ length l.units;
}

abbrev pub decreases-loop-i : goal.decreases-loop-i
decreases-loop-i l = length l.units - l.i
