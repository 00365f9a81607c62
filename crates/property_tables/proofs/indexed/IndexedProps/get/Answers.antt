use Rattle.std.proofs.Common.{◌≡◌, ap, sym, ◌∙◌, Some, None}
use Rattle.std.specs.Map.{lookup}
use Rattle.caja_units.specs.Units.{same_units}
use Rattle.property_tables.specs.Indexed.{Indexed, entries, full_slot}
use Rattle.property_tables.proofs.Slots.{found-in, found-behind}
use Rattle.property_tables.proofs.indexed.IndexedProps.get.Goals as goal

pub returns-in-Some : goal.returns-in-Some
returns-in-Some g c =
    let xs = c.self.inside.slots.items in
    let os = c.self.inside.others in
    let full : full_slot c.args.k.now xs ≡ Some c.in-Some.at = ap (λ (v : Indexed g.row.P.Denot). full_slot c.args.k.now v.slots) c.self.view_is ∙ sym c.full_slot.ensures ∙ c.in-Some.is in
    c.as_ref.ensures.value ∙ found-in c.args.k.now xs os c.in-Some.at _ full c.self.invariant.bounded c.index.ensures
    ∙ ap (λ (v : Indexed g.row.P.Denot). lookup (same_units c.args.k.now) (entries v)) c.self.view_is

pub returns-in-None : goal.returns-in-None
returns-in-None g c =
    let xs = c.self.inside.slots.items in
    let os = c.self.inside.others in
    let full : full_slot c.args.k.now xs ≡ None = ap (λ (v : Indexed g.row.P.Denot). full_slot c.args.k.now v.slots) c.self.view_is ∙ sym c.full_slot.ensures ∙ c.in-None.is in
    c.get.ensures ∙ found-behind c.args.k.now xs os full c.self.invariant.bounded
    ∙ ap (λ (v : Indexed g.row.P.Denot). lookup (same_units c.args.k.now) (entries v)) c.self.view_is
