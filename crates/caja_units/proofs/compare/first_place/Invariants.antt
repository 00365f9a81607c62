use Rattle.std.proofs.Common.{◌≡◌, ◌+◌, ◌-◌, length, find}
use Rattle.std.specs.List.{range_with_len}
use Rattle.caja_units.specs.Units.{first_place, stands_at}
use Rattle.caja_units.proofs.compare.first_place.Given as goal

abbrev pub invariant-loop-place : goal.invariant-loop-place
invariant-loop-place l =
    find (stands_at l.text l.part) (range_with_len l.place (length l.text + 1 - l.place))
    ≡ first_place l.text l.part l.fn.from
