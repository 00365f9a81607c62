-- Which values are functions of texts that modules may use.
use Rattle.std.specs.Prelude.{ℕ, Bool, true, false, Option, Some, None, is_some}
use Rattle.es3_objects.specs.declared.value.Value.{Value}
use Rattle.es3_objects.specs.declared.value.Value.TheVariants as v
use Rattle.es3_objects.specs.declared.value.Class.{Class}
use Rattle.es3_objects.specs.declared.value.Class.TheVariants as class
use Rattle.es3_objects.specs.declared.value.FuncKind.{FuncKind}
use Rattle.es3_objects.specs.declared.value.FuncKind.TheVariants as kind
use Rattle.es3_objects.specs.Reading.{kind_of}
use Rattle.es3_heap.specs.Objects.{Objects, object_at, class_of, callable_of}
use Rattle.es3_heap.specs.Properties.{own}
use Rattle.heap_rows.specs.Marks.{simple_mark}

-- the kind of a function, with or without the mark of one that modules may use
abbrev pub is_closure_if : Bool → Option FuncKind → Bool
is_closure_if marked (Some (kind.Code n)) = marked
is_closure_if marked k = false

abbrev pub is_closure_object : Class → Objects → ℕ → Bool
is_closure_object class.Function h o = is_closure_if (is_some (own h o simple_mark)) (kind_of (callable_of (object_at h o)))
is_closure_object c h o = false

abbrev pub is_closure : Objects → Value → Bool
is_closure h (v.Obj o) = is_closure_object (class_of (object_at h o)) h o
is_closure h x = false
