-- What a function that modules may use runs.
use Rattle.std.specs.Prelude.{ℕ, Option, None, if◌then◌else◌}
use Rattle.es3_objects.specs.declared.value.Value.{Value}
use Rattle.es3_objects.specs.declared.value.Value.TheVariants as v
use Rattle.es3_objects.specs.declared.value.Class.{Class}
use Rattle.es3_objects.specs.declared.value.Class.TheVariants as class
use Rattle.es3_objects.specs.declared.value.FuncKind.{FuncKind}
use Rattle.es3_heap.specs.Objects.{Objects, object_at, class_of, callable_of}
use Rattle.es3_objects.specs.Reading.{kind_of}
use Rattle.guard_marks.specs.Functions.{is_for_modules}

abbrev pub class_kind : Class → Objects → ℕ → Option FuncKind
class_kind class.Function h o = if is_for_modules h o then kind_of (callable_of (object_at h o)) else None
class_kind c h o = None

-- none where a value is no function, or none that modules may use
abbrev pub function_kind : Objects → Value → Option FuncKind
function_kind h (v.Obj o) = class_kind (class_of (object_at h o)) h o
function_kind h x = None
