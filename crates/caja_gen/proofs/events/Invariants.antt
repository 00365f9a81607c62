use Rattle.std.proofs.Common.{◌≡◌, map}
use Rattle.std.specs.List.{range_with_len}
use Rattle.event_script.specs.Events.{asked}
use Rattle.caja_gen.specs.Generated.{event_of}
use Rattle.caja_gen.proofs.events.Given as goal

abbrev pub invariant-loop-j : goal.invariant-loop-j
invariant-loop-j l = map asked l.events.items ≡ map (event_of l.modules) (range_with_len 0 l.j)
