use Rattle.std.proofs.Common.{◌≡◌, take, map}
use Rattle.html_grammar.specs.Characters.{lower}
use Rattle.html_pieces.proofs.parts.lowered.Given as goal

abbrev pub invariant-loop-c : goal.invariant-loop-c
invariant-loop-c l = l.units.items ≡ map lower (take l.c-index l.s)
