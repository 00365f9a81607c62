-- New objects: what the standard says of each kind.
use Rattle.std.specs.Prelude.{ℕ, ◌+◌, List, [], ◌∷◌, Option, Some, None, length, pos, codes}
use Rattle.caja_units.specs.Index.{number_units}
use Rattle.es3_objects.specs.declared.value.Value.{Value}
use Rattle.es3_objects.specs.declared.value.Value.TheVariants.{Num, Text}
use Rattle.es3_objects.specs.declared.value.Class.{Class}
use Rattle.es3_objects.specs.declared.value.Class.TheVariants as class
use Rattle.es3_objects.specs.declared.value.Tag.TheVariants as tag
use Rattle.es3_objects.specs.declared.value.Proto.{Proto}
use Rattle.es3_objects.specs.declared.value.Proto.TheVariants as proto
use Rattle.es3_objects.specs.Objects.{Property, Callable, Object, plain_attrs, fixed_attrs}
use Rattle.es3_objects.specs.Properties.{length_key}

-- where each prototype stands
abbrev pub proto_id : Proto → ℕ
proto_id proto.Object = 0
proto_id proto.Function = 1
proto_id proto.Array = 2
proto_id proto.String = 3
proto_id proto.Number = 4
proto_id proto.Boolean = 5
proto_id proto.Error = 6
proto_id proto.TypeError = 7
proto_id proto.RangeError = 8
proto_id proto.Node = 9

-- an object without properties and without a name
abbrev pub bare : Class → Option ℕ → Option Callable → Object
bare c p f = record { class = c; proto = p; callable = f; tag = tag.None; props = [] }

-- 15.4.5.2: the length of an array, which is neither written nor deleted by a script
abbrev pub length_property : ℕ → Property
length_property n = record { key = length_key; value = Num (pos n); attrs = fixed_attrs }

-- what an object of a class begins with: an array has a length
abbrev pub first_properties : Class → List Property
first_properties class.Array = length_property 0 ∷ []
first_properties c = []

abbrev pub plain_object : Class → Option ℕ → Object
plain_object c p = record { class = c; proto = p; callable = None; tag = tag.None; props = first_properties c }

-- the items of an array from an index on
abbrev pub item_properties : ℕ → List Value → List Property
item_properties i [] = []
item_properties i (v ∷ vs) = record { key = number_units i; value = v; attrs = plain_attrs } ∷ item_properties (i + 1) vs

-- 15.4.2.1, 11.1.4: an array of these items
abbrev pub array_object : List Value → Object
array_object vs = record {
  class = class.Array;
  proto = Some (proto_id proto.Array);
  callable = None;
  tag = tag.None;
  props = length_property (length vs) ∷ item_properties 0 vs;
}

-- 15.11: an error with its name and message
abbrev pub error_object : Proto → List ℕ → List ℕ → Object
error_object p name message = record {
  class = class.Error;
  proto = Some (proto_id p);
  callable = None;
  tag = tag.None;
  props = record { key = codes "name"; value = Text name; attrs = fixed_attrs } ∷ record { key = codes "message"; value = Text message; attrs = fixed_attrs } ∷ [];
}
