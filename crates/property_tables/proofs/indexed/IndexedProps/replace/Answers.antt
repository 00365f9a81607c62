use Rattle.std.proofs.Common.{◌≡◌, ap, sym, subst, ◌∙◌, ◌++◌, Some, None}
use Rattle.std.specs.Map.{set_value}
use Rattle.caja_units.specs.Units.{same_units}
use Rattle.property_tables.specs.Indexed.{Indexed, IsIndexed, present, entries, full_slot}
use Rattle.property_tables.proofs.Slots.{slot-within, set-in, set-behind, set-kept, set-kept-behind}
use Rattle.property_tables.proofs.indexed.IndexedProps.replace.Goals as goal

pub set_slot-requires : goal.set_slot-requires
set_slot-requires g c =
    let xs = c.self.inside.slots.items in
    let os = c.self.inside.others in
    let full : full_slot c.args.k.now xs ≡ Some c.in-Some.at = ap (λ (v : Indexed g.row.P.Denot). full_slot c.args.k.now v.slots) c.self.view_is ∙ sym c.full_slot.ensures ∙ c.in-Some.is in
    slot-within c.args.k.now xs c.in-Some.at full

pub invariant_of-self : goal.invariant_of-self
invariant_of-self g c =
    let xs = c.self.inside.slots.items in
    let os = c.self.inside.others in
    subst (λ l. IsIndexed l os c.self.inside.mixed) (sym c.set_slot.ensures) (set-kept xs os c.in-Some.at (Some c.args.p) c.self.invariant)

pub returns-in-Some : goal.returns-in-Some
returns-in-Some g c =
    let xs = c.self.inside.slots.items in
    let os = c.self.inside.others in
    let full : full_slot c.args.k.now xs ≡ Some c.in-Some.at = ap (λ (v : Indexed g.row.P.Denot). full_slot c.args.k.now v.slots) c.self.view_is ∙ sym c.full_slot.ensures ∙ c.in-Some.is in
    ap (λ l. present 0 l ++ os) c.set_slot.ensures ∙ set-in c.args.k.now xs os c.in-Some.at c.args.p full c.self.invariant.bounded
    ∙ ap (λ (v : Indexed g.row.P.Denot). set_value (same_units c.args.k.now) (entries v) c.args.p) c.self.view_is

pub invariant_of-self-in-None : goal.invariant_of-self-in-None
invariant_of-self-in-None g c =
    let xs = c.self.inside.slots.items in
    let os = c.self.inside.others in
    subst (λ l. IsIndexed xs l c.self.inside.mixed) (sym c.replace.ensures) (set-kept-behind (same_units c.args.k.now) c.args.p xs os c.self.invariant)

pub returns-in-None : goal.returns-in-None
returns-in-None g c =
    let xs = c.self.inside.slots.items in
    let os = c.self.inside.others in
    let full : full_slot c.args.k.now xs ≡ None = ap (λ (v : Indexed g.row.P.Denot). full_slot c.args.k.now v.slots) c.self.view_is ∙ sym c.full_slot.ensures ∙ c.in-None.is in
    ap (λ l. present 0 xs ++ l) c.replace.ensures ∙ set-behind c.args.k.now xs os c.args.p full c.self.invariant.bounded
    ∙ ap (λ (v : Indexed g.row.P.Denot). set_value (same_units c.args.k.now) (entries v) c.args.p) c.self.view_is
