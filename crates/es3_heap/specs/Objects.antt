-- The objects of a store (ES3 8.6), each named by its place.
pub use Rattle.es3_objects.specs.Objects.{Property, Callable, Object, plain_attrs, hidden_attrs, fixed_attrs, kept_attrs}
use Rattle.std.specs.Prelude.{ℕ, List, [], ◌∷◌, ◌++◌, Option, Some, None, slice_get, slice_set}
use Rattle.es3_objects.specs.declared.value.Class.{Class}
use Rattle.es3_objects.specs.declared.value.Tag.{Tag}

-- all objects, each named by its place, and for each module how many objects have been named for it
pub record Objects : Type 0 where
  pub list : List Object
  pub counts : List ℕ

abbrev pub object_at : Objects → ℕ → Option Object
object_at h o = slice_get h.list o

-- an object, or none, with a part of it
abbrev pub props_of : Option Object → List Property
props_of None = []
props_of (Some o) = o.props

abbrev pub proto_of : Option Object → Option ℕ
proto_of None = None
proto_of (Some o) = o.proto

abbrev pub callable_of : Option Object → Option Callable
callable_of None = None
callable_of (Some o) = o.callable

abbrev pub tag_of : Option Object → Tag
tag_of None = Rattle.es3_objects.specs.declared.value.Tag.TheVariants.None
tag_of (Some o) = o.tag

abbrev pub class_of : Option Object → Class
class_of None = Rattle.es3_objects.specs.declared.value.Class.TheVariants.Object
class_of (Some o) = o.class

-- a new object, the last
abbrev pub with_object : Objects → Object → Objects
with_object h o = record { list = h.list ++ o ∷ []; counts = h.counts }

-- another object in the place of one
abbrev pub replaced : Objects → ℕ → Object → Objects
replaced h n o = record { list = slice_set h.list n o; counts = h.counts }
