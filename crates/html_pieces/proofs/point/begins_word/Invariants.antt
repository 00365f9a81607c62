use Rattle.std.proofs.Common.{◌≡◌, ◌≤◌, drop, take, map, length}
use Rattle.caja_units.specs.Units.{same_units}
use Rattle.html_grammar.specs.Characters.{lower}
use Rattle.html_pieces.proofs.point.begins_word.Given as goal

abbrev pub invariant-loop-i : goal.invariant-loop-i
invariant-loop-i l = record { rest : same_units (drop l.i (map lower (take (length l.word) l.s))) (drop l.i l.word) ≡ same_units (map lower (take (length l.word) l.s)) l.word; enough : length l.word ≤ length l.s }
