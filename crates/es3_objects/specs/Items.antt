-- The items of an array, and how it gets others in their place (ES3 15.4.5.1).
use Rattle.std.specs.Prelude.{◌≡◌, ◌≤◌, ℕ, zero, suc, ◌+◌, ◌-◌, Bool, false, not, List, [], ◌∷◌, ◌++◌, Option, Some, None, length, nat_lt, pos, slice_get, take}
use Rattle.std.specs.List.{filter}
use Rattle.caja_units.specs.Index.{array_index, number_units}
use Rattle.es3_objects.specs.declared.value.Value.{Value}
use Rattle.es3_objects.specs.declared.value.Value.TheVariants.{Num}
use Rattle.es3_objects.specs.Objects.{Property, plain_attrs, fixed_attrs}
use Rattle.es3_objects.specs.Properties.{length_key, length_of, value_of, find, defined}
use Rattle.es3_objects.specs.Making.{length_property, item_properties}

-- whether a property is an item at or past an index
abbrev pub is_from : ℕ → Option ℕ → Bool
is_from n None = false
is_from n (Some i) = not (nat_lt i n)

abbrev pub is_past : ℕ → Property → Bool
is_past n p = is_from n (array_index p.key)

-- items from an index on: one that is there keeps its place among the properties, and a new one goes last
abbrev pub with_items : ℕ → List Value → List Property → List Property
with_items i [] ps = ps
with_items i (v ∷ vs) ps = with_items (i + 1) vs (defined (number_units i) v plain_attrs ps)

-- the properties of an array that gets these items: those past the new length go
abbrev pub items_set : List Value → List Property → List Property
items_set vs ps = with_items 0 vs (defined length_key (Num (pos (length vs))) fixed_attrs (filter (λ p. not (is_past (length vs) p)) ps))

-- n items of an array from an index on; a hole is undefined
abbrev pub values_from : ℕ → ℕ → List Property → List Value
values_from zero i ps = []
values_from (suc n) i ps = value_of (find (number_units i) ps) ∷ values_from n (i + 1) ps

abbrev pub values_in : List Property → List Value
values_in ps = values_from (length_of (value_of (find length_key ps))) 0 ps

-- 15.4.4.7: an array gets items behind those that it has
abbrev pub appended : List Value → List Property → List Property
appended vs ps = items_set (values_in ps ++ vs) ps

-- 15.4.4.6: the last item of an array, and the array without it
abbrev pub last_value : List Property → Option Value
last_value ps = let xs = values_in ps in slice_get xs (length xs - 1)

abbrev pub set_where : Option Value → List Value → List Property → List Property
set_where None vs ps = ps
set_where (Some x) vs ps = items_set vs ps

abbrev pub without_last : List Property → List Property
without_last ps = let xs = values_in ps in set_where (last_value ps) (take (length xs - 1) xs) ps

-- the properties of an array that has n items and nothing else but its length, in their order
pub record IsDense (n : ℕ) (ps : List Property) : Type 0 where
  pub items : List Value
  pub count : length items ≡ n
  pub few : n ≤ 4294967295
  pub are : ps ≡ length_property n ∷ item_properties 0 items
