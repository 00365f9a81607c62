use Rattle.std.proofs.Common.{◌≡◌, ◌+◌, drop, map}
use Rattle.host_rules.specs.Plain.{plain}
use Rattle.host_services.specs.Services.{place_of}
use Rattle.host_services.specs.View.{rows_of}
use Rattle.host_services.proofs.picks.VecRowPicks.pick.Given as goal

abbrev pub invariant-loop-place : goal.invariant-loop-place
invariant-loop-place l = place_of (rows_of l.self.items) (map plain l.args) ≡ l.place + place_of (rows_of (drop l.place l.self.items)) (map plain l.args)
