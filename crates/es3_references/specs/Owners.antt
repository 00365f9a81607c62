-- What a scope has beside its names, as data.
use Rattle.std.specs.Prelude.{ℕ, Option, Some, None}
use Rattle.es3_language.specs.Store.{Owner, activation, own_name, caught, with_object_of, Scope}
use Rattle.es3_references.specs.declared.names.Elsewhere.{Elsewhere}
use Rattle.es3_references.specs.declared.names.Elsewhere.TheVariants as e

pub data Beyond : Type 0 where
  its_arguments : Beyond
  its_object : ℕ → Beyond
  nothing : Beyond

abbrev pub plain_beyond : Elsewhere → Beyond
plain_beyond e.Activation = its_arguments
plain_beyond (e.Object o) = its_object o
plain_beyond e.Nowhere = nothing

abbrev pub beyond_owner : Owner → Beyond
beyond_owner (activation f xs vs) = its_arguments
beyond_owner own_name = nothing
beyond_owner caught = nothing
beyond_owner (with_object_of o) = its_object o

abbrev pub beyond : Option Scope → Beyond
beyond None = nothing
beyond (Some scope) = beyond_owner scope.owner
