use Rattle.std.proofs.Common.{◌≡◌, drop}
use Rattle.html_grammar.specs.Point.{comment_end}
use Rattle.html_pieces.proofs.Points.{shifted}
use Rattle.html_pieces.proofs.point.comment_end.Given as goal

abbrev pub invariant-loop-i : goal.invariant-loop-i
invariant-loop-i l = shifted l.i (comment_end (drop l.i l.s)) ≡ comment_end l.s
