-- Which functions modules may use.
use Rattle.std.specs.Prelude.{ℕ, Bool, true, false, Option, Some, None, is_some}
use Rattle.es3_objects.specs.declared.value.FuncKind.{FuncKind}
use Rattle.es3_objects.specs.declared.value.FuncKind.TheVariants as kind
use Rattle.es3_heap.specs.Objects.{Objects, object_at, callable_of}
use Rattle.es3_heap.specs.Properties.{own}
use Rattle.es3_objects.specs.Reading.{kind_of}
use Rattle.heap_rows.specs.Marks.{simple_mark}

-- one of a text needs its mark
abbrev pub is_for_modules_if : Bool → Option FuncKind → Bool
is_for_modules_if simple None = false
is_for_modules_if simple (Some (kind.Code n)) = simple
is_for_modules_if simple (Some k) = true

abbrev pub is_for_modules : Objects → ℕ → Bool
is_for_modules h o = is_for_modules_if (is_some (own h o simple_mark)) (kind_of (callable_of (object_at h o)))
