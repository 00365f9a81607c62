use Rattle.std.proofs.Common.{◌≡◌, arith, ap, sym, ◌∙◌, Some, None}
use Rattle.std.specs.Map.{lookup}
use Rattle.caja_units.specs.Units.{same_units}
use Rattle.caja_units.specs.Index.{number_units}
use Rattle.property_tables.specs.Indexed.{Indexed, entries, full_at}
use Rattle.property_tables.proofs.Slots.{slot-at, found-in, none-at}
use Rattle.property_tables.proofs.indexed.IndexedProps.get_at.Goals as goal

pub returns-in-Some : goal.returns-in-Some
returns-in-Some g c =
    let xs = c.self.inside.slots.items in
    let os = c.self.inside.others in
    let at : full_at xs (Some c.args.i) ≡ Some c.in-Some.at = ap (λ (v : Indexed g.row.P.Denot). full_at v.slots (Some c.args.i)) c.self.view_is ∙ sym c.full_at.ensures ∙ c.in-Some.is in
    let full = slot-at xs c.args.i c.in-Some.at c.self.invariant.bounded at in
    c.as_ref.ensures.value ∙ found-in (number_units c.args.i) xs os c.in-Some.at _ full c.self.invariant.bounded c.index.ensures
    ∙ ap (λ (v : Indexed g.row.P.Denot). lookup (same_units (number_units c.args.i)) (entries v)) c.self.view_is

pub returns-then-not-self : goal.returns-then-not-self
returns-then-not-self g c =
    let xs = c.self.inside.slots.items in
    let os = c.self.inside.others in
    let none : full_at xs (Some c.args.i) ≡ None = ap (λ (v : Indexed g.row.P.Denot). full_at v.slots (Some c.args.i)) c.self.view_is ∙ sym c.full_at.ensures ∙ c.in_default.is in
    sym (none-at xs os c.args.i (omega arith) c.self.invariant c.if-not-self.true none) ∙ ap (λ (v : Indexed g.row.P.Denot). lookup (same_units (number_units c.args.i)) (entries v)) c.self.view_is
