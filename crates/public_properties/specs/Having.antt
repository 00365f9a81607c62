-- Which public properties values have.
use Rattle.std.specs.Prelude.{ℕ, Bool, false, ◌||◌, ◌&&◌, not, List, Option, Some, None, is_some, nat_lt, codes}
use Rattle.caja_units.specs.Units.{same_units, is_hidden}
use Rattle.caja_units.specs.Index.{array_index}
use Rattle.es3_objects.specs.declared.value.Value.{Value}
use Rattle.es3_objects.specs.declared.value.Value.TheVariants as v
use Rattle.es3_objects.specs.declared.value.Class.{Class}
use Rattle.es3_objects.specs.declared.value.Class.TheVariants as class
use Rattle.es3_heap.specs.Objects.{Objects, object_at, class_of}
use Rattle.es3_heap.specs.Properties.{own, length_key}
use Rattle.public_properties.specs.Reading.{item_count}

abbrev pub has_item : Option ℕ → Objects → ℕ → Bool
has_item None h o = false
has_item (Some i) h o = nat_lt i (item_count h o)

-- of an object, by its class
abbrev pub object_has : Class → Objects → ℕ → List ℕ → Bool
object_has class.Object h o k = is_some (own h o k)
object_has class.Array h o k = same_units k length_key || has_item (array_index k) h o
object_has class.Error h o k = same_units k (codes "name") || same_units k (codes "message")
object_has c h o k = false

-- none where there is no object to look in
abbrev pub public_has : Objects → Value → List ℕ → Option Bool
public_has h (v.Obj o) k = Some (not (is_hidden k) && object_has (class_of (object_at h o)) h o k)
public_has h x k = None
