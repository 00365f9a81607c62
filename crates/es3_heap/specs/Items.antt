-- The items of an array of a store, and how it gets others in their place (ES3 15.4.5.1).
pub use Rattle.es3_objects.specs.Items.{is_from, is_past, with_items, items_set}
use Rattle.std.specs.Prelude.{ℕ, zero, suc, ◌+◌, ◌-◌, List, [], ◌∷◌, ◌++◌, Option, Some, None, length, slice_get, take}
use Rattle.caja_units.specs.Index.{number_units}
use Rattle.es3_objects.specs.declared.value.Value.{Value}
use Rattle.es3_heap.specs.Objects.{Objects, object_at, props_of}
use Rattle.es3_heap.specs.Properties.{value_of, length_key, length_of, own, with_props}

abbrev pub set_items : Objects → ℕ → List Value → Objects
set_items h o vs = with_props h o (object_at h o) (items_set vs (props_of (object_at h o)))

-- n items of an array from an index on; a hole is undefined
abbrev pub items_from : ℕ → ℕ → Objects → ℕ → List Value
items_from zero i h o = []
items_from (suc n) i h o = value_of (own h o (number_units i)) ∷ items_from n (i + 1) h o

abbrev pub array_items : Objects → ℕ → List Value
array_items h o = items_from (length_of (value_of (own h o length_key))) 0 h o

-- 15.4.4.7: an array gets items behind those that it has
abbrev pub append_items : Objects → ℕ → List Value → Objects
append_items h o vs = set_items h o (array_items h o ++ vs)

-- 15.4.4.6: the last item of an array, and the array without it
abbrev pub last_item : Objects → ℕ → Option Value
last_item h o = let xs = array_items h o in slice_get xs (length xs - 1)

abbrev pub left_without : Option Value → List Value → ℕ → Objects → Objects
left_without None xs o h = h
left_without (Some x) xs o h = set_items h o xs

abbrev pub without_last : Objects → ℕ → Objects
without_last h o = let xs = array_items h o in left_without (last_item h o) (take (length xs - 1) xs) o h
