-- keysPub: a new array of keys, without a name.
use Rattle.std.specs.Prelude.{ℕ, List, [], Option, Some, None, length, map, nat_lt, codes, if◌then◌else◌}
use Rattle.es3_objects.specs.declared.value.Value.TheVariants as v
use Rattle.es3_heap.specs.Objects.{Objects, with_object}
use Rattle.es3_heap.specs.Making.{array_object}
use Rattle.rows.specs.Rows.{most_items}
use Rattle.heap_rows.specs.Doing.{Done, gives, too_long}
use Rattle.row_outcomes.specs.Comes.{throws}

abbrev pub keys_answer : Option (List (List ℕ)) → ℕ → Objects → Done
keys_answer None by h = throws (codes "no object") by h
keys_answer (Some ks) by h = if nat_lt (length ks) most_items then gives (v.Obj (length h.list)) (with_object h (array_object (map v.Text ks))) [] else too_long h []
