-- What the log shows of a value of ES3.
use Rattle.std.specs.Prelude.{ℕ, List, [], codes}
use Rattle.page_deeds.specs.Shown.{Shown, undefined, null, truth, number, text, thing, error, a_record, an_array, a_function, a_node}
use Rattle.es3_objects.specs.declared.value.Value.{Value}
use Rattle.es3_objects.specs.declared.value.Value.TheVariants as v
use Rattle.es3_objects.specs.declared.value.Class.{Class}
use Rattle.es3_objects.specs.declared.value.Class.TheVariants as class
use Rattle.es3_objects.specs.declared.value.Tag.{Tag}
use Rattle.es3_heap.specs.Objects.{Objects, object_at, class_of, tag_of}
use Rattle.es3_heap.specs.Properties.{own, value_of}

-- a text; nothing of what is none
abbrev pub text_units : Value → List ℕ
text_units (v.Text us) = us
text_units x = []

-- an object, by its class; an error has a name and a message
abbrev pub shown_object : Class → Objects → ℕ → Tag → Shown Tag
shown_object class.Object h o g = thing a_record g
shown_object class.Array h o g = thing an_array g
shown_object class.Function h o g = thing a_function g
shown_object class.Node h o g = thing a_node g
shown_object class.Error h o g = error g (text_units (value_of (own h o (codes "name")))) (text_units (value_of (own h o (codes "message"))))

abbrev pub shown_value : Objects → Value → Shown Tag
shown_value h v.Undefined = undefined
shown_value h v.Null = null
shown_value h (v.Bool b) = truth b
shown_value h (v.Num n) = number n
shown_value h (v.Text us) = text us
shown_value h (v.Obj o) = shown_object (class_of (object_at h o)) h o (tag_of (object_at h o))
