-- What is told of a read and of a call, as data.
use Rattle.std.specs.Prelude.{ℕ, List, Option, Some, None, if◌then◌else◌}
use Rattle.plans.specs.Plans.{told}
use Rattle.caja_units.specs.Units.{is_hidden}
use Rattle.es3_objects.specs.declared.value.Value.{Value}
use Rattle.es3_objects.specs.declared.value.Value.TheVariants.{Obj}
use Rattle.es3_objects.specs.declared.value.Tag.{Tag}
use Rattle.es3_objects.specs.declared.value.Tag.TheVariants as tag
use Rattle.es3_heap.specs.Objects.{Objects, object_at, tag_of}
use Rattle.es3_language.specs.declared.Touch.{Touch}
use Rattle.es3_language.specs.References.{Ref, member}
use Rattle.es3_language.specs.Natives.{Touched}
use Rattle.es3_language.specs.Meaning.{Plan, callee_tag}

-- a touch of an object, where it has a name
abbrev pub named_touch : ℕ → Touch → Tag → Option (List ℕ) → Option Touched
named_touch by w tag.None k = None
named_touch by w g k = Some (record { by = by; what = w; on = g; key = k })

abbrev pub member_touch : Touch → Ref → ℕ → Objects → Option Touched
member_touch w (member (Obj o) k) by h = if is_hidden k then None else named_touch by w (tag_of (object_at h o)) (Some k)
member_touch w r by h = None

abbrev pub call_touch : Touch → Value → ℕ → Objects → Option Touched
call_touch w f by h = named_touch by w (callee_tag h f) None

-- what is told, if anything, and then a plan
abbrev pub telling : Option Touched → Plan → Plan
telling None p = p
telling (Some i) p = told i p
