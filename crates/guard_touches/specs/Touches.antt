-- What a guard touches: how, which object with a name, and at which key.
use Rattle.std.specs.Prelude.{ℕ, List, [], ◌∷◌, Option, Some, None, Result, Ok, Err, is_some, if◌then◌else◌}
use Rattle.plans.specs.Plans.{Fault}
use Rattle.es3_objects.specs.declared.value.Value.{Value}
use Rattle.es3_heap.specs.Objects.{Objects}
use Rattle.es3_convert.specs.Conversions.{text_of}
use Rattle.rows.specs.Rows.{Touch, to_get, to_set, to_delete, to_has, to_keys, to_new}
use Rattle.heap_rows.specs.Doing.{Told, touched_value}
use Rattle.row_outcomes.specs.Arguments.{argument}
use Rattle.public_properties.specs.Functions.{function_kind}
use Rattle.guard_runtime.specs.declared.Guard.{Guard}
use Rattle.guard_runtime.specs.declared.Guard.TheVariants as g
use Rattle.guard_runtime.specs.Guards.{list_of}
use Rattle.page_log.specs.declared.items.Item.{Item}
use Rattle.page_log.specs.Items.{told_of}

-- a line of the log, or none
abbrev pub told_if : Option Item → List Told
told_if None = []
told_if (Some i) = told_of i ∷ []

-- at the text of a key; where it has none the guard stops, and nothing is touched
abbrev pub at_text : ℕ → Touch → Value → Result (List ℕ) Fault → Objects → List Told
at_text by t x (Ok us) h = touched_value by t x h (us ∷ [])
at_text by t x (Err f) h = []

-- a guard that takes a list throws where there is none, and touches nothing
abbrev pub with_list : Option (List Value) → List Told → List Told
with_list None items = []
with_list (Some xs) items = items

-- a function that modules may use
abbrev pub made_by : ℕ → Value → Objects → List Told
made_by by f h = if is_some (function_kind h f) then touched_value by to_new f h [] else []

abbrev pub touches_of : Guard → ℕ → List Value → Objects → List Told
touches_of g.ReadPub by vs h = at_text by to_get (argument 0 vs) (text_of h (argument 1 vs)) h
touches_of g.SetPub by vs h = at_text by to_set (argument 0 vs) (text_of h (argument 1 vs)) h
touches_of g.DeletePub by vs h = at_text by to_delete (argument 0 vs) (text_of h (argument 1 vs)) h
touches_of g.InPub by vs h = at_text by to_has (argument 1 vs) (text_of h (argument 0 vs)) h
touches_of g.KeysPub by vs h = touched_value by to_keys (argument 0 vs) h []
touches_of g.CallPub by vs h = with_list (list_of h (argument 2 vs)) (at_text by to_get (argument 0 vs) (text_of h (argument 1 vs)) h)
touches_of g.Construct by vs h = with_list (list_of h (argument 1 vs)) (made_by by (argument 0 vs) h)
touches_of g by vs h = []
