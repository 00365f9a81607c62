use Rattle.std.proofs.Common.{◌≡◌, ◌+◌, drop}
use Rattle.html_grammar.specs.Point.{raw_len}
use Rattle.html_pieces.proofs.point.raw_len.Given as goal

abbrev pub invariant-loop-i : goal.invariant-loop-i
invariant-loop-i l = l.i + raw_len l.name (drop l.i l.s) ≡ raw_len l.name l.s
