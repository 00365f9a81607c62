use Rattle.std.proofs.Common.{◌≡◌, take}
use Rattle.caja_units.specs.Utf8.{units_of_chars}
use Rattle.html_tokens.proofs.runs.units_of.Given as goal

abbrev pub invariant-loop-c : goal.invariant-loop-c
invariant-loop-c l = l.units.items ≡ units_of_chars (take l.c-index l.s)
