use Rattle.std.proofs.Common.{◌≡◌, arith, ap, sym, ◌∙◌, ◌++◌, Some, None, is_some}
use Rattle.std.specs.Map.{lookup, remove_entry}
use Rattle.caja_units.specs.Units.{same_units}
use Rattle.caja_units.specs.Index.{number_units}
use Rattle.property_tables.specs.Indexed.{Indexed, present, entries, full_at}
use Rattle.property_tables.proofs.Entries.{remove-none}
use Rattle.property_tables.proofs.Slots.{slot-at, slot-within, some-in, remove-in, none-at}
use Rattle.property_tables.proofs.indexed.IndexedProps.remove_at.Goals as goal

pub set_slot-requires : goal.set_slot-requires
set_slot-requires g c =
    let xs = c.self.inside.slots.items in
    let os = c.self.inside.others in
    let at : full_at xs (Some c.args.i) ≡ Some c.in-Some.at = ap (λ (v : Indexed g.row.P.Denot). full_at v.slots (Some c.args.i)) c.self.view_is ∙ sym c.full_at.ensures ∙ c.in-Some.is in
    let full = slot-at xs c.args.i c.in-Some.at c.self.invariant.bounded at in
    slot-within (number_units c.args.i) xs c.in-Some.at full

pub returns-in-Some-clause-answer : goal.returns-in-Some-clause-answer
returns-in-Some-clause-answer g c =
    let xs = c.self.inside.slots.items in
    let os = c.self.inside.others in
    let at : full_at xs (Some c.args.i) ≡ Some c.in-Some.at = ap (λ (v : Indexed g.row.P.Denot). full_at v.slots (Some c.args.i)) c.self.view_is ∙ sym c.full_at.ensures ∙ c.in-Some.is in
    let full = slot-at xs c.args.i c.in-Some.at c.self.invariant.bounded at in
    sym (some-in (number_units c.args.i) xs os c.in-Some.at full c.self.invariant.bounded)
    ∙ ap (λ (v : Indexed g.row.P.Denot). is_some (lookup (same_units (number_units c.args.i)) (entries v))) c.self.view_is

pub returns-in-Some-clause-ok : goal.returns-in-Some-clause-ok
returns-in-Some-clause-ok g c =
    let xs = c.self.inside.slots.items in
    let os = c.self.inside.others in
    let at : full_at xs (Some c.args.i) ≡ Some c.in-Some.at = ap (λ (v : Indexed g.row.P.Denot). full_at v.slots (Some c.args.i)) c.self.view_is ∙ sym c.full_at.ensures ∙ c.in-Some.is in
    let full = slot-at xs c.args.i c.in-Some.at c.self.invariant.bounded at in
    ap (λ l. present 0 l ++ os) c.set_slot.ensures ∙ remove-in (number_units c.args.i) xs os c.in-Some.at full c.self.invariant.bounded
    ∙ ap (λ (v : Indexed g.row.P.Denot). remove_entry (same_units (number_units c.args.i)) (entries v)) c.self.view_is

pub returns-then-not-self-clause-answer : goal.returns-then-not-self-clause-answer
returns-then-not-self-clause-answer g c =
    let xs = c.self.inside.slots.items in
    let os = c.self.inside.others in
    let none : full_at xs (Some c.args.i) ≡ None = ap (λ (v : Indexed g.row.P.Denot). full_at v.slots (Some c.args.i)) c.self.view_is ∙ sym c.full_at.ensures ∙ c.in_default.is in
    let absent = none-at xs os c.args.i (omega arith) c.self.invariant c.if-not-self.true none in
    sym (ap is_some absent) ∙ ap (λ (v : Indexed g.row.P.Denot). is_some (lookup (same_units (number_units c.args.i)) (entries v))) c.self.view_is

pub returns-then-not-self-clause-ok : goal.returns-then-not-self-clause-ok
returns-then-not-self-clause-ok g c =
    let xs = c.self.inside.slots.items in
    let os = c.self.inside.others in
    let none : full_at xs (Some c.args.i) ≡ None = ap (λ (v : Indexed g.row.P.Denot). full_at v.slots (Some c.args.i)) c.self.view_is ∙ sym c.full_at.ensures ∙ c.in_default.is in
    let absent = none-at xs os c.args.i (omega arith) c.self.invariant c.if-not-self.true none in
    let here : lookup (same_units (number_units c.args.i)) (entries c.args.self.now) ≡ None = ap (λ (v : Indexed g.row.P.Denot). lookup (same_units (number_units c.args.i)) (entries v)) (sym c.self.view_is) ∙ absent in
    sym (remove-none (same_units (number_units c.args.i)) (entries c.args.self.now) here)
