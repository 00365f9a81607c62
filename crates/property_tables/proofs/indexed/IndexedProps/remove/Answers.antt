use Rattle.std.proofs.Common.{◌≡◌, ap, sym, subst, ◌∙◌, ◌++◌, Some, None, is_some}
use Rattle.std.specs.Map.{lookup, remove_entry}
use Rattle.caja_units.specs.Units.{same_units}
use Rattle.property_tables.specs.Indexed.{Indexed, IsIndexed, present, entries, full_slot}
use Rattle.property_tables.proofs.Slots.{slot-within, some-in, found-behind, remove-in, remove-behind, set-kept, remove-kept-behind}
use Rattle.property_tables.proofs.indexed.IndexedProps.remove.Goals as goal

pub set_slot-requires : goal.set_slot-requires
set_slot-requires g c =
    let xs = c.self.inside.slots.items in
    let os = c.self.inside.others in
    let full : full_slot c.args.k.now xs ≡ Some c.in-Some.at = ap (λ (v : Indexed g.row.P.Denot). full_slot c.args.k.now v.slots) c.self.view_is ∙ sym c.full_slot.ensures ∙ c.in-Some.is in
    slot-within c.args.k.now xs c.in-Some.at full

pub invariant_of-self : goal.invariant_of-self
invariant_of-self g c =
    let xs = c.self.inside.slots.items in
    let os = c.self.inside.others in
    subst (λ l. IsIndexed l os c.self.inside.mixed) (sym c.set_slot.ensures) (set-kept xs os c.in-Some.at None c.self.invariant)

pub invariant_of-self-in-None : goal.invariant_of-self-in-None
invariant_of-self-in-None g c =
    let xs = c.self.inside.slots.items in
    let os = c.self.inside.others in
    subst (λ l. IsIndexed xs l c.self.inside.mixed) (sym c.take.ensures.left) (remove-kept-behind (same_units c.args.k.now) xs os c.self.invariant)

pub returns-in-Some-clause-answer : goal.returns-in-Some-clause-answer
returns-in-Some-clause-answer g c =
    let xs = c.self.inside.slots.items in
    let os = c.self.inside.others in
    let full : full_slot c.args.k.now xs ≡ Some c.in-Some.at = ap (λ (v : Indexed g.row.P.Denot). full_slot c.args.k.now v.slots) c.self.view_is ∙ sym c.full_slot.ensures ∙ c.in-Some.is in
    sym (some-in c.args.k.now xs os c.in-Some.at full c.self.invariant.bounded)
    ∙ ap (λ (v : Indexed g.row.P.Denot). is_some (lookup (same_units c.args.k.now) (entries v))) c.self.view_is

pub returns-in-Some-clause-left : goal.returns-in-Some-clause-left
returns-in-Some-clause-left g c =
    let xs = c.self.inside.slots.items in
    let os = c.self.inside.others in
    let full : full_slot c.args.k.now xs ≡ Some c.in-Some.at = ap (λ (v : Indexed g.row.P.Denot). full_slot c.args.k.now v.slots) c.self.view_is ∙ sym c.full_slot.ensures ∙ c.in-Some.is in
    ap (λ l. present 0 l ++ os) c.set_slot.ensures ∙ remove-in c.args.k.now xs os c.in-Some.at full c.self.invariant.bounded
    ∙ ap (λ (v : Indexed g.row.P.Denot). remove_entry (same_units c.args.k.now) (entries v)) c.self.view_is

pub returns-in-None-clause-answer : goal.returns-in-None-clause-answer
returns-in-None-clause-answer g c =
    let xs = c.self.inside.slots.items in
    let os = c.self.inside.others in
    let full : full_slot c.args.k.now xs ≡ None = ap (λ (v : Indexed g.row.P.Denot). full_slot c.args.k.now v.slots) c.self.view_is ∙ sym c.full_slot.ensures ∙ c.in-None.is in
    c.take.ensures.answer ∙ ap is_some (found-behind c.args.k.now xs os full c.self.invariant.bounded)
    ∙ ap (λ (v : Indexed g.row.P.Denot). is_some (lookup (same_units c.args.k.now) (entries v))) c.self.view_is

pub returns-in-None-clause-left : goal.returns-in-None-clause-left
returns-in-None-clause-left g c =
    let xs = c.self.inside.slots.items in
    let os = c.self.inside.others in
    let full : full_slot c.args.k.now xs ≡ None = ap (λ (v : Indexed g.row.P.Denot). full_slot c.args.k.now v.slots) c.self.view_is ∙ sym c.full_slot.ensures ∙ c.in-None.is in
    ap (λ l. present 0 xs ++ l) c.take.ensures.left ∙ remove-behind c.args.k.now xs os full c.self.invariant.bounded
    ∙ ap (λ (v : Indexed g.row.P.Denot). remove_entry (same_units c.args.k.now) (entries v)) c.self.view_is
