-- The public keys of values.
use Rattle.std.specs.Prelude.{ℕ, zero, suc, ◌+◌, List, [], ◌∷◌, Option, Some, None, map, codes}
use Rattle.caja_units.specs.Index.{number_units}
use Rattle.es3_objects.specs.declared.value.Value.{Value}
use Rattle.es3_objects.specs.declared.value.Value.TheVariants as v
use Rattle.es3_objects.specs.declared.value.Class.{Class}
use Rattle.es3_objects.specs.declared.value.Class.TheVariants as class
use Rattle.es3_heap.specs.Objects.{Objects, object_at, props_of, class_of}
use Rattle.es3_heap.specs.Properties.{own, value_of, length_key, length_of}
use Rattle.heap_rows.specs.Doing.{Done, guests}
use Rattle.row_outcomes.specs.Comes.{throws}
use Rattle.row_outcomes.specs.Arrays.{new_array}

-- so many indices from one on
abbrev pub indices_from : ℕ → ℕ → List (List ℕ)
indices_from i zero = []
indices_from i (suc n) = number_units i ∷ indices_from (i + 1) n

-- the indices of an array's items, and what modules see of a record
abbrev pub object_keys : Class → Objects → ℕ → List (List ℕ)
object_keys class.Object h o = map (λ p. p.0) (guests (props_of (object_at h o)))
object_keys class.Array h o = indices_from 0 (length_of (value_of (own h o length_key)))
object_keys c h o = []

-- none where there is no object to look in
abbrev pub public_keys : Objects → Value → Option (List (List ℕ))
public_keys h v.Undefined = None
public_keys h v.Null = None
public_keys h (v.Obj o) = Some (object_keys (class_of (object_at h o)) h o)
public_keys h x = Some []

-- a new array of them
abbrev pub listed : Option (List (List ℕ)) → ℕ → Objects → Done
listed None by h = throws (codes "no object") by h
listed (Some ks) by h = new_array by h (map v.Text ks)
