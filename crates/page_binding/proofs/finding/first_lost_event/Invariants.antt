-- What is left decides.
use Rattle.std.proofs.Common.{◌≡◌, drop, map}
use Rattle.event_script.specs.Events.{asked}
use Rattle.page_binding.specs.Bound.{first_lost}
use Rattle.page_binding.specs.Table.{takes_click, takes_input}
use Rattle.page_binding.proofs.finding.first_lost_event.Given as goal

abbrev pub invariant-loop-k : goal.invariant-loop-k
invariant-loop-k l =
    first_lost (takes_click l.roots l.table) (takes_input l.roots l.table) l.k (map asked (drop l.k l.events)) ≡ first_lost (takes_click l.roots l.table) (takes_input l.roots l.table) 0 (map asked l.events)
