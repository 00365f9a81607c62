use Rattle.std.proofs.Common.{◌≡◌, ◌<◌, ◌^◌, take}
use Rattle.std.specs.Str.Parse.{digits_value}
use Rattle.es3_convert.proofs.number.value.Given as goal

abbrev pub invariant-loop-unit : goal.invariant-loop-unit
invariant-loop-unit l = (l.value ≡ digits_value l.radix (take l.unit-index l.digits)) × (l.value < 2 ^ 53)
