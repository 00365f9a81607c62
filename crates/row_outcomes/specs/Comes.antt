-- How what a built-in function comes to stands to its row among objects: want of memory says nothing, and steps are never spent here.
use Rattle.std.specs.Prelude.{◌≡◌, ℕ, suc, List, [], ◌∷◌, length, codes, Result, Ok, Err}
use Rattle.plans.specs.Plans.{number_fault, depth_fault, convert_fault}
use Rattle.es3_objects.specs.declared.value.Stop.{Stop}
use Rattle.es3_objects.specs.declared.value.Stop.TheVariants as stop
use Rattle.es3_objects.specs.declared.value.Value.{Value}
use Rattle.es3_objects.specs.declared.value.Proto.TheVariants as proto
use Rattle.es3_heap.specs.Objects.{Objects}
use Rattle.es3_heap.specs.Making.{error_object}
use Rattle.es3_language.specs.Natives.{value_reply, throw_reply, invoke_reply, stop_reply}
use Rattle.rows.specs.Rows.{Native}
use Rattle.rows.specs.Table.{row_of}
use Rattle.rows.specs.Nodes.{no_rules}
use Rattle.heap_rows.specs.Doing.{Done, does, makes}
use Rattle.heap_rows.specs.Opening.{place_of, empty_page}
use Rattle.row_outcomes.specs.declared.Outcome.{Outcome}
use Rattle.row_outcomes.specs.declared.Outcome.TheVariants as outcome

-- a stop: a fault, with the objects that it leaves
abbrev pub Stopped : Done → Stop → Objects → Type 0
Stopped d stop.Number h = (d.reply ≡ stop_reply number_fault) × (d.heap ≡ h)
Stopped d stop.Depth h = (d.reply ≡ stop_reply depth_fault) × (d.heap ≡ h)
Stopped d stop.Convert h = (d.reply ≡ stop_reply convert_fault) × (d.heap ≡ h)
Stopped d stop.Steps h = ⊥
Stopped d stop.Memory h = Unit {0}

-- the answer and the objects that are left are those of what a row comes to
abbrev pub Comes : Done → Result Outcome Stop → Objects → Type 0
Comes d (Ok (outcome.Value x)) h = (d.reply ≡ value_reply x) × (d.heap ≡ h)
Comes d (Ok (outcome.Throw x)) h = (d.reply ≡ throw_reply x) × (d.heap ≡ h)
Comes d (Ok (outcome.Invoke recorded f this args)) h = (d.reply ≡ invoke_reply recorded f this args.items) × (d.heap ≡ h)
Comes d (Err s) h = Stopped d s h

-- what the row of a built-in function comes to: it gets its receiver, or itself where it wants none, and the arguments
abbrev pub row_done : Native → ℕ → Value → List Value → Objects → Done
row_done f by this args h = (does place_of by (row_of no_rules f (suc (length args))) (this ∷ args) h empty_page []).done

-- a new TypeError with this message is thrown
abbrev pub throws : List ℕ → ℕ → Objects → Done
throws message by h = makes throw_reply by (error_object proto.TypeError (codes "TypeError") message) h []
