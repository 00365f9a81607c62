-- How what a method comes to stands to its definition: want of memory says nothing.
use Rattle.std.specs.Prelude.{◌≡◌, ℕ, List, [], Result, Ok, Err}
use Rattle.plans.specs.Plans.{Fault}
use Rattle.es3_objects.specs.declared.value.Stop.{Stop}
use Rattle.es3_objects.specs.declared.value.Stop.TheVariants as stop
use Rattle.es3_objects.specs.declared.value.Value.{Value}
use Rattle.es3_heap.specs.Objects.{Objects}
use Rattle.es3_language.specs.Natives.{Turn, value_reply, stop_reply}
use Rattle.heap_rows.specs.Doing.{Done}
use Rattle.row_outcomes.specs.Comes.{throws}
use Rattle.tamed_dom.specs.Lent.{Lent}

-- what a function comes to, with what it leaves of what is lent
abbrev pub turn_of : Done → Lent → Turn Lent
turn_of t z = record { reply = t.reply; heap = t.heap; state = z }

-- what it comes to among the objects alone
abbrev pub done_of : Turn Lent → Done
done_of t = record { reply = t.reply; heap = t.heap; items = [] }

abbrev pub gives : Value → Objects → Lent → Turn Lent
gives x h z = record { reply = value_reply x; heap = h; state = z }

abbrev pub stops : Fault → Objects → Lent → Turn Lent
stops f h z = record { reply = stop_reply f; heap = h; state = z }

-- a new TypeError with this message is thrown, made by the running module
abbrev pub threw : List ℕ → ℕ → Objects → Lent → Turn Lent
threw message by h z = turn_of (throws message by h) z

-- what is left is what the definition leaves
abbrev pub Leaves : {A : Type 0} → Result A Stop → Lent → Lent → Type 0
Leaves (Ok x) z y = z ≡ y
Leaves (Err stop.Memory) z y = Unit {0}
Leaves (Err s) z y = z ≡ y
