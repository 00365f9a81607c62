-- What the guards that read answer, at a key, and the mark that is left.
use Rattle.std.specs.Prelude.{ℕ, Bool, ◌&&◌, not, List, [], Option, Some, None, is_some, codes, if◌then◌else◌}
use Rattle.caja_units.specs.Units.{is_hidden}
use Rattle.es3_objects.specs.declared.value.Value.{Value}
use Rattle.es3_objects.specs.declared.value.Value.TheVariants as v
use Rattle.es3_objects.specs.declared.value.Class.{Class}
use Rattle.es3_objects.specs.declared.value.Class.TheVariants as class
use Rattle.es3_heap.specs.Objects.{Objects, object_at, class_of}
use Rattle.es3_heap.specs.Properties.{own}
use Rattle.heap_rows.specs.Marks.{grant_read}
use Rattle.heap_rows.specs.Doing.{Done, gives}
use Rattle.row_outcomes.specs.Comes.{throws}
use Rattle.public_properties.specs.Reading.{public_read}

-- a key that was read of a record is marked, where modules see it
abbrev pub record_read : Class → Objects → ℕ → List ℕ → Objects
record_read class.Object h o k = if is_some (own h o k) && not (is_hidden k) then grant_read h o k else h
record_read c h o k = h

abbrev pub after_read : Objects → Value → List ℕ → Objects
after_read h (v.Obj o) k = record_read (class_of (object_at h o)) h o k
after_read h x k = h

-- readPub
abbrev pub read_answer : Value → Objects → List ℕ → Done
read_answer x h us = gives (public_read h x us) (after_read h x us) []

-- inPub: whether a value has a key, where there is an object
abbrev pub has_answer : Option Bool → ℕ → Objects → Done
has_answer None by h = throws (codes "no object") by h
has_answer (Some b) by h = gives (v.Bool b) h []
