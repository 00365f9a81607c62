use Rattle.std.proofs.Common.{◌≡◌, take}
use Rattle.std.specs.List.{sum_by}
use Rattle.css_grammar.specs.Refusals.{unit_width}
use Rattle.css_reader.proofs.reading.width.Given as goal

abbrev pub invariant-loop-unit : goal.invariant-loop-unit
invariant-loop-unit l = l.width ≡ sum_by unit_width (take l.unit-index l.units)
