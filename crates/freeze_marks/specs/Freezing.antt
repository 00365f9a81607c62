-- What freezing leaves, and what is frozen.
use Rattle.std.specs.Prelude.{ℕ, Bool, true, false, List, [], ◌∷◌}
use Rattle.es3_objects.specs.declared.value.Value.{Value}
use Rattle.es3_objects.specs.declared.value.Value.TheVariants as v
use Rattle.es3_objects.specs.declared.value.Class.{Class}
use Rattle.es3_objects.specs.declared.value.Class.TheVariants as class
use Rattle.es3_heap.specs.Objects.{Objects, object_at, class_of}
use Rattle.es3_heap.specs.Properties.{delete}
use Rattle.heap_rows.specs.Marks.{is_frozen, freeze}
use Rattle.heap_rows.specs.Doing.{of_either}
use Rattle.guard_marks.specs.Functions.{is_for_modules}

-- an object without these keys, one after another (ES3 8.6.2.5)
abbrev pub deleted : List (List ℕ) → ℕ → Objects → Objects
deleted [] o h = h
deleted (k ∷ ks) o h = deleted ks o (delete h o k)

-- a record or an array is frozen, and another value is left alone
abbrev pub frozen_value : Value → Objects → Objects
frozen_value (v.Obj o) h = of_either (class_of (object_at h o)) (freeze h o) h
frozen_value x h = h

-- what can't change is frozen too; an object that modules have nothing to do with isn't
abbrev pub object_frozen : Class → Objects → ℕ → Bool
object_frozen class.Object h o = is_frozen h o
object_frozen class.Array h o = is_frozen h o
object_frozen class.Function h o = is_for_modules h o
object_frozen class.Error h o = true
object_frozen class.Node h o = true

abbrev pub value_frozen : Objects → Value → Bool
value_frozen h (v.Obj o) = object_frozen (class_of (object_at h o)) h o
value_frozen h x = true
