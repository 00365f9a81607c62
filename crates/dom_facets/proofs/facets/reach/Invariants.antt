use Rattle.std.proofs.Common.{◌≡◌, ◌-◌, None, length}
use Rattle.dom_facets.specs.Places.{padded}
use Rattle.dom_facets.proofs.facets.reach.Given as goal

abbrev pub invariant-reach : goal.invariant-reach
invariant-reach l = record { padded : padded None l.count l.objects.items ≡ padded None l.count l.initial.objects.items }

abbrev pub decreases-reach : goal.decreases-reach
decreases-reach l = l.count - length l.objects.items
