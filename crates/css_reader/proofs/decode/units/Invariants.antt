use Rattle.std.proofs.Common.{◌≡◌}
use Rattle.caja_units.specs.Utf8.{units_of_chars}
use Rattle.css_reader.proofs.decode.units.Given as goal

abbrev pub invariant-loop-character : goal.invariant-loop-character
invariant-loop-character l = l.units.items ≡ units_of_chars l.yielded
