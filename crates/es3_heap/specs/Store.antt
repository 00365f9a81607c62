-- What a store keeps beside its objects.
use Rattle.std.specs.Prelude.{◌≡◌, ◌≤◌, ℕ, List, length}
use Rattle.es3_objects.specs.declared.value.Value.{Value}
use Rattle.es3_objects.specs.declared.value.Value.TheVariants.{Undefined}
use Rattle.es3_heap.specs.Objects.{Object}
use Rattle.es3_heap.specs.Properties.{length_key}

-- at most 2^32 - 2 objects, the name `length`, and the value of a property that isn't there
pub record IsStore (objects : List Object) (name : List ℕ) (missing : Value) : Type 0 where
  pub bounded : length objects ≤ 4294967294
  pub named : name ≡ length_key
  pub undefined : missing ≡ Undefined
