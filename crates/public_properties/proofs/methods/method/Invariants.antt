-- What is left of the table decides.
use Rattle.std.proofs.Common.{◌≡◌, drop}
use Rattle.public_properties.specs.Reading.{placed_value}
use Rattle.public_properties.proofs.methods.method.Given as goal

abbrev pub invariant-loop-name : goal.invariant-loop-name
invariant-loop-name l = placed_value (drop l.name-index l.methods) l.k ≡ placed_value l.fn.methods l.k
