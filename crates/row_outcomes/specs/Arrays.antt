-- How a built-in function ends in an array: a new one, or other items of one that is there. An array has fewer than 2^32 items (ES3 15.4).
use Rattle.std.specs.Prelude.{ℕ, List, [], length, nat_lt, if◌then◌else◌}
use Rattle.es3_objects.specs.declared.value.Value.{Value}
use Rattle.es3_heap.specs.Objects.{Objects}
use Rattle.es3_heap.specs.Items.{set_items}
use Rattle.es3_heap.specs.Making.{array_object}
use Rattle.es3_language.specs.Natives.{value_reply}
use Rattle.rows.specs.Rows.{most_items}
use Rattle.heap_rows.specs.Doing.{Done, makes, gives, too_long}

-- a new array of these items, which has the next name of the module
abbrev pub new_array : ℕ → Objects → List Value → Done
new_array by h xs = if nat_lt (length xs) most_items then makes value_reply by (array_object xs) h [] else too_long h []

-- an array gets these items, and a value is answered
abbrev pub changed_array : ℕ → List Value → Value → Objects → Done
changed_array o xs x h = if nat_lt (length xs) most_items then gives x (set_items h o xs) [] else too_long h []
