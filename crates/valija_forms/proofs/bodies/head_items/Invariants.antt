-- The temporaries so far; then all of them and the names so far.
use Rattle.std.proofs.Common.{◌≡◌, ◌++◌, take}
use Rattle.es3_tree.specs.PlacedView as source
use Rattle.valija_forms.specs.Forms as forms
use Rattle.valija_forms.proofs.bodies.head_items.Given as goal

abbrev pub invariant-loop-number : goal.invariant-loop-number
invariant-loop-number l = source.of_items l.items.items ≡ forms.items (forms.temporaries_from 0 l.number)

abbrev pub invariant-loop-name : goal.invariant-loop-name
invariant-loop-name l = source.of_items l.items.items ≡ forms.items (forms.temporaries_from 0 l.fn.taken ++ take l.name-index l.names)
