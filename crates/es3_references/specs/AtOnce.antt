-- What is written and deleted at once, so that no memory is wanted.
use Rattle.es3_objects.specs.declared.value.Value.TheVariants.{Text, Obj}
use Rattle.es3_language.specs.References.{Ref, member, just}

-- what is no reference, and members of what is no object, are not written (8.7.2)
abbrev pub IsNotWritten : Ref → Type 0
IsNotWritten (member (Obj o) k) = ⊥
IsNotWritten (member v k) = Unit {0}
IsNotWritten (just v) = Unit {0}
IsNotWritten r = ⊥

-- all but a member of a text, which may be its length (15.5.5.1)
abbrev pub IsDeletedAtOnce : Ref → Type 0
IsDeletedAtOnce (member (Text us) k) = ⊥
IsDeletedAtOnce r = Unit {0}
