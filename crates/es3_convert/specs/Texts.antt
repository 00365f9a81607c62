-- The text of an object, and what is left of the text of an array from an index on.
use Rattle.std.specs.Prelude.{ℕ, zero, suc, List, [], Result, Err, codes, if◌then◌else◌}
use Rattle.plans.specs.Plans.{Fault, depth_fault, convert_fault}
use Rattle.es3_objects.specs.declared.value.Value.{Value}
use Rattle.es3_heap.specs.Objects.{Objects, object_at, class_of}
use Rattle.es3_convert.specs.Conversions.{converts, array_items, tail_text, joined, class_text, text_within}

-- 15.4.4.5: what stands before the item at an index
abbrev pub before_item : ℕ → List ℕ → List ℕ
before_item zero sep = []
before_item (suc i) sep = sep

-- 15.4.4.5: the items from an index on, with what stands before each
abbrev pub rest_text : ℕ → (Value → Result (List ℕ) Fault) → List ℕ → List Value → Result (List ℕ) Fault
rest_text zero text sep xs = joined text sep xs
rest_text (suc i) text sep xs = tail_text text sep xs

-- 15.4.4.5: the items of an array with a separator between each two, where n arrays may still be nested in one another
abbrev pub array_text : ℕ → List ℕ → Objects → ℕ → Result (List ℕ) Fault
array_text zero sep h o = Err depth_fault
array_text (suc n) sep h o = joined (text_within n h) sep (array_items h o)

-- 9.8, 8.6.2.6: the text of an object, where n arrays may still be nested in one another
abbrev pub object_text : ℕ → Objects → ℕ → Result (List ℕ) Fault
object_text n h o = if converts h o then class_text (array_text n (codes ",") h o) (class_of (object_at h o)) else Err convert_fault
