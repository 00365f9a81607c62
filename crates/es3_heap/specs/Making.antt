-- New objects in a store, and the names that the log gives.
pub use Rattle.es3_objects.specs.Making.{proto_id, bare, length_property, first_properties, plain_object, item_properties, array_object, error_object}
use Rattle.std.specs.Prelude.{ℕ, ◌+◌, Bool, true, false, if◌then◌else◌, List, [], ◌∷◌, Option, Some, None, slice_get, slice_set, replicate, min}
use Rattle.es3_objects.specs.declared.value.Class.{Class}
use Rattle.es3_objects.specs.declared.value.Class.TheVariants as class
use Rattle.es3_objects.specs.declared.value.FuncKind.{FuncKind}
use Rattle.es3_objects.specs.declared.value.Tag.{Tag}
use Rattle.es3_objects.specs.declared.value.Tag.TheVariants as tag
use Rattle.es3_objects.specs.declared.value.Proto.TheVariants as proto
use Rattle.es3_objects.specs.Objects.{Object}
use Rattle.es3_heap.specs.Objects.{Objects, object_at, with_object, replaced}

-- the ten prototypes: that of Object has none, those of TypeError and RangeError have that of Error, the others that of Object
abbrev pub first_objects : List Object
first_objects =
    bare class.Object None None ∷ bare class.Object (Some 0) None ∷ bare class.Object (Some 0) None ∷ bare class.Object (Some 0) None
    ∷ bare class.Object (Some 0) None ∷ bare class.Object (Some 0) None ∷ bare class.Object (Some 0) None ∷ bare class.Object (Some 6) None
    ∷ bare class.Object (Some 6) None ∷ bare class.Object (Some 0) None ∷ []

-- a store as it begins, with a count for each of 64 modules
abbrev pub new_objects : Objects
new_objects = record { list = first_objects; counts = replicate 64 0 }

-- a new object that isn't a function
abbrev pub made : Class → Option ℕ → Objects → Objects
made c p h = with_object h (plain_object c p)

-- a new function
abbrev pub made_function : FuncKind → ℕ → Objects → Objects
made_function k m h = with_object h (bare class.Function (Some (proto_id proto.Function)) (Some (record { kind = k; maker = m })))

abbrev pub count_at : Option ℕ → ℕ
count_at None = 0
count_at (Some n) = n

abbrev pub with_tag : Objects → ℕ → Option Object → Tag → Objects
with_tag h n None t = h
with_tag h n (Some o) t = replaced h n (record { class = o.class; proto = o.proto; callable = o.callable; tag = t; props = o.props })

abbrev pub is_untagged : Tag → Bool
is_untagged tag.None = true
is_untagged t = false

-- whether there is an object that has no name yet
abbrev pub awaits_name : Option Object → Bool
awaits_name None = false
awaits_name (Some o) = is_untagged o.tag

-- an object's name is set once
abbrev pub tagged : Objects → ℕ → Tag → Objects
tagged h o t = if awaits_name (object_at h o) then with_tag h o (object_at h o) t else h

-- a count stands still at 2^32 - 1
abbrev pub raised : ℕ → ℕ
raised n = min (n + 1) 4294967295

-- the next name of a module for an object that has none; for another object no name is counted
abbrev pub named : Objects → ℕ → ℕ → Objects
named h o m =
    let n = count_at (slice_get h.counts m) in
    let g = with_tag h o (object_at h o) (tag.Made m n) in
    if awaits_name (object_at h o) then record { list = g.list; counts = slice_set h.counts m (raised n) } else h
