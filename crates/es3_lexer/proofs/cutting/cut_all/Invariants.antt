use Rattle.std.proofs.Common.{◌≡◌, ◌+◌, ◌-◌, ◌≤◌, length, drop, map, true, false}
use Rattle.std.specs.List.{sum_by}
use Rattle.std.specs.Char.{len_utf8}
use Rattle.es3_lexer.proofs.cutting.cut_all.Given as goal
use Rattle.es3_lexer.specs.Views.{placed_of}
use Rattle.es3_tokens.specs.Cut.{cut_from}
use Rattle.es3_tokens.specs.Steps.{fronts}

abbrev pub invariant-loop-i : goal.invariant-loop-i
invariant-loop-i l = record {
  rest : fronts (map placed_of l.list.items) (cut_from 0 l.at l.line l.operand (drop l.i l.chars)) ≡ cut_from 0 l.fn.start false true l.chars;
  place : l.at + sum_by len_utf8 (drop l.i l.chars) ≡ l.fn.start + sum_by len_utf8 l.chars;
  within : l.i ≤ length l.chars;
}

abbrev pub decreases-loop-i : goal.decreases-loop-i
decreases-loop-i l = length l.chars - l.i
