-- What kind a value is of, among objects.
use Rattle.std.specs.Prelude.{Bool, true, false}
use Rattle.es3_objects.specs.declared.value.Value.{Value}
use Rattle.es3_objects.specs.declared.value.Value.TheVariants as v
use Rattle.es3_objects.specs.declared.value.Class.{Class}
use Rattle.es3_objects.specs.declared.value.Class.TheVariants as class
use Rattle.es3_heap.specs.Objects.{Objects, object_at, class_of}

abbrev pub is_class_array : Class → Bool
is_class_array class.Array = true
is_class_array c = false

abbrev pub has_class_array : Objects → Value → Bool
has_class_array h (v.Obj o) = is_class_array (class_of (object_at h o))
has_class_array h x = false

abbrev pub is_class_object : Class → Bool
is_class_object class.Object = true
is_class_object c = false

abbrev pub has_class_object : Objects → Value → Bool
has_class_object h (v.Obj o) = is_class_object (class_of (object_at h o))
has_class_object h x = false

abbrev pub is_class_function : Class → Bool
is_class_function class.Function = true
is_class_function c = false

abbrev pub has_class_function : Objects → Value → Bool
has_class_function h (v.Obj o) = is_class_function (class_of (object_at h o))
has_class_function h x = false
