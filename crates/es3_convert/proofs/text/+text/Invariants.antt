use Rattle.std.proofs.Common.{◌≡◌, ◌++◌, ◌+◌, ◌-◌, ◌*◌, Ok}
use Rattle.es3_convert.specs.Conversions.{and_then, items_from, text_within}
use Rattle.es3_convert.specs.Texts.{array_text, rest_text}
use Rattle.es3_convert.proofs.text.+text.Given as goal

-- an item is entered with one array less that may be nested in it

abbrev pub decreases-item_text : goal.decreases-item_text
decreases-item_text l = 4 * l.nested + 3

abbrev pub decreases-text_within : goal.decreases-text_within
decreases-text_within l = 4 * l.nested + 2

abbrev pub decreases-object_text : goal.decreases-object_text
decreases-object_text l = 4 * l.nested + 1

abbrev pub decreases-array_text : goal.decreases-array_text
decreases-array_text l = 4 * l.nested

abbrev pub invariant-array_text-loop-index : goal.invariant-array_text-loop-index
invariant-array_text-loop-index l =
    array_text l.nested l.separator l.h l.o
    ≡ and_then (rest_text l.index (text_within (l.nested - 1) l.h) l.separator (items_from (l.count - l.index) l.index l.h l.o)) (λ ws. Ok (l.units.items ++ ws))
