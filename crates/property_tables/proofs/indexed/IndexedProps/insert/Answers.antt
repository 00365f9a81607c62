use Rattle.std.proofs.Common.{◌≡◌, ap, sym, subst, ◌∙◌, ◌++◌, Some}
use Rattle.indexmap.specs.IndexMap.{insert_entry}
use Rattle.caja_units.specs.Units.{same_units}
use Rattle.property_tables.specs.Indexed.{Indexed, IsIndexed, present, entries, full_slot}
use Rattle.property_tables.proofs.Slots.{slot-within, insert-in, set-kept}
use Rattle.property_tables.proofs.indexed.IndexedProps.insert.Goals as goal

pub returns-in-Some-clause-ok : goal.returns-in-Some-clause-ok
returns-in-Some-clause-ok g c =
    let xs = c.self.inside.slots.items in
    let os = c.self.inside.others in
    let full : full_slot c.args.k.now xs ≡ Some c.in-Some.at = ap (λ (v : Indexed g.row.P.Denot). full_slot c.args.k.now v.slots) c.self.view_is ∙ sym c.full_slot.ensures ∙ c.in-Some.is in
    ap (λ l. present 0 l ++ os) c.set_slot.ensures ∙ insert-in c.args.k.now xs os c.in-Some.at c.args.p full c.self.invariant.bounded
    ∙ ap (λ (v : Indexed g.row.P.Denot). insert_entry same_units (entries v) c.args.k.now c.args.p) c.self.view_is

pub set_slot-requires : goal.set_slot-requires
set_slot-requires g c =
    let xs = c.self.inside.slots.items in
    let os = c.self.inside.others in
    let full : full_slot c.args.k.now xs ≡ Some c.in-Some.at = ap (λ (v : Indexed g.row.P.Denot). full_slot c.args.k.now v.slots) c.self.view_is ∙ sym c.full_slot.ensures ∙ c.in-Some.is in
    slot-within c.args.k.now xs c.in-Some.at full

pub invariant_of-self : goal.invariant_of-self
invariant_of-self g c =
    let xs = c.self.inside.slots.items in
    let os = c.self.inside.others in
    subst (λ l. IsIndexed l os c.self.inside.mixed) (sym c.set_slot.ensures) (set-kept xs os c.in-Some.at (Some c.args.p) c.self.invariant)
