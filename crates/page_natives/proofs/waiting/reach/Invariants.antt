use Rattle.std.proofs.Common.{◌≡◌, ◌-◌, [], length, map}
use Rattle.dom_facets.specs.Places.{padded}
use Rattle.page_natives.proofs.waiting.reach.Given as goal

abbrev pub invariant-reach : goal.invariant-reach
invariant-reach l = record { padded : padded [] l.count (map (λ q. q.items) l.queues.items) ≡ padded [] l.count (map (λ q. q.items) l.initial.queues.items) }

abbrev pub decreases-reach : goal.decreases-reach
decreases-reach l = l.count - length l.queues.items
