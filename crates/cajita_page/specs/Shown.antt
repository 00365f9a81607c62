-- What the log shows of a value of a world.
use Rattle.std.specs.Prelude.{zero, Option, Some, None}
use Rattle.page_deeds.specs.Shown as s
use Rattle.page_deeds.specs.Shown.{Shown, Sort, thing, a_function, a_node, Ended, by_return, by_throw}
use Rattle.rows.specs.Guards.{maker_name}
use Rattle.cajita_meaning.specs.World.{Name, made_name, cell_name, tools_name, facet_name, forward_name, Value, undefined, null, truth, number, text, object, Object, a_record, an_array, a_closure, an_error, World, object_at}
use Rattle.cajita_meaning.specs.Direct.{Completion, gave, threw}

-- an object that a module made; an error has a name and a message
abbrev pub made_shown : Name → Option Object → Shown Name
made_shown n None = thing s.a_record n
made_shown n (Some (a_record frozen ps)) = thing s.a_record n
made_shown n (Some (an_array frozen vs)) = thing s.an_array n
made_shown n (Some (a_closure f chain)) = thing a_function n
made_shown n (Some (an_error maker message)) = s.error n (maker_name maker) message

-- an object that no module made: of a cell, and of a grant of one, the name 0 is the record and the others are its functions
abbrev pub sort_of : Name → Sort
sort_of (cell_name c zero) = s.a_record
sort_of (forward_name m p c zero) = s.a_record
sort_of (tools_name t) = s.a_record
sort_of (facet_name r n) = a_node
sort_of n = a_function

abbrev pub object_shown : World → Name → Shown Name
object_shown w (made_name m n) = made_shown (made_name m n) (object_at w (made_name m n))
object_shown w n = thing (sort_of n) n

abbrev pub shown_in : World → Value → Shown Name
shown_in w undefined = s.undefined
shown_in w null = s.null
shown_in w (truth b) = s.truth b
shown_in w (number n) = s.number n
shown_in w (text us) = s.text us
shown_in w (object n) = object_shown w n

-- a turn gives a value or throws one, and ends in no other way
abbrev pub end_in : World → Completion → Ended Name
end_in w (gave v) = by_return (shown_in w v)
end_in w (threw v) = by_throw (shown_in w v)
end_in w e = by_return s.undefined
