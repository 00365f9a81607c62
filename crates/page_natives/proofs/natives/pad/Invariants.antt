use Rattle.std.proofs.Common.{◌≡◌, ◌-◌, length}
use Rattle.es3_objects.specs.declared.value.Value.TheVariants.{Undefined}
use Rattle.dom_facets.specs.Places.{padded}
use Rattle.page_natives.proofs.natives.pad.Given as goal

abbrev pub invariant-loop-cells : goal.invariant-loop-cells
invariant-loop-cells l = record { padded : padded Undefined l.count l.cells.items ≡ padded Undefined l.count l.initial.cells.items }

abbrev pub decreases-loop-cells : goal.decreases-loop-cells
decreases-loop-cells l = l.count - length l.cells.items
