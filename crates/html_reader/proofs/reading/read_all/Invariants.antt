use Rattle.std.proofs.Common.{◌≡◌, ◌+◌, ◌-◌, ◌≤◌, length, drop}
use Rattle.std.specs.List.{sum_by}
use Rattle.std.specs.Char.{len_utf8}
use Rattle.html_grammar.specs.Reading.{read_from, read}
use Rattle.html_tree.specs.Views.{trees}
use Rattle.html_reader.specs.Stacks.{stack}
use Rattle.html_reader.proofs.reading.read_all.Given as goal

abbrev pub invariant-loop-i : goal.invariant-loop-i
invariant-loop-i l = record {
  rest : read_from 0 l.at l.first (stack l.open.items) (trees l.here.items) (drop l.i l.chars) ≡ read l.chars;
  place : l.at + sum_by len_utf8 (drop l.i l.chars) ≡ sum_by len_utf8 l.chars;
  within : l.i ≤ length l.chars;
}

abbrev pub decreases-loop-i : goal.decreases-loop-i
decreases-loop-i l = length l.chars - l.i
