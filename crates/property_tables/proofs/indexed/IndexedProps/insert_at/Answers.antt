use Rattle.std.proofs.Common.{◌≡◌, ap, sym, subst, refl, ◌∙◌, ◌++◌, Some, None}
use Rattle.indexmap.specs.IndexMap.{insert_entry}
use Rattle.caja_units.specs.Units.{same_units}
use Rattle.caja_units.specs.Index.{number_units}
use Rattle.property_tables.specs.Indexed.{Indexed, IsNext, present, entries, full_at}
use Rattle.caja_units.proofs.Indices.{array_index-number}
use Rattle.property_tables.proofs.Slots.{slot-at, no_slot-at, slot-within, insert-in, insert-push}
use Rattle.property_tables.proofs.indexed.IndexedProps.insert_at.Goals as goal

pub returns-in-Some-clause-ok : goal.returns-in-Some-clause-ok
returns-in-Some-clause-ok g c =
    let xs = c.self.inside.slots.items in
    let os = c.self.inside.others in
    let at : full_at xs (Some c.args.i) ≡ Some c.in-Some.at = ap (λ (v : Indexed g.row.P.Denot). full_at v.slots (Some c.args.i)) c.self.view_is ∙ sym c.full_at.ensures ∙ c.in-Some.is in
    let full = slot-at xs c.args.i c.in-Some.at c.self.invariant.bounded at in
    ap (λ l. present 0 l ++ os) c.set_slot.ensures ∙ insert-in (number_units c.args.i) xs os c.in-Some.at c.args.p full c.self.invariant.bounded
    ∙ ap (λ (v : Indexed g.row.P.Denot). insert_entry same_units (entries v) (number_units c.args.i) c.args.p) c.self.view_is

pub set_slot-requires : goal.set_slot-requires
set_slot-requires g c =
    let xs = c.self.inside.slots.items in
    let os = c.self.inside.others in
    let at : full_at xs (Some c.args.i) ≡ Some c.in-Some.at = ap (λ (v : Indexed g.row.P.Denot). full_at v.slots (Some c.args.i)) c.self.view_is ∙ sym c.full_at.ensures ∙ c.in-Some.is in
    let full = slot-at xs c.args.i c.in-Some.at c.self.invariant.bounded at in
    slot-within (number_units c.args.i) xs c.in-Some.at full

pub returns-then-is_next-clause-ok : goal.returns-then-is_next-clause-ok
returns-then-is_next-clause-ok g c =
    let xs = c.self.inside.slots.items in
    let os = c.self.inside.others in
    let next : IsNext c.args.i (record { slots = xs; others = os }) = subst (IsNext c.args.i) (sym c.self.view_is) (c.if-is_next.ensures.0 refl) in
    let none : full_at xs (Some c.args.i) ≡ None = ap (λ (v : Indexed g.row.P.Denot). full_at v.slots (Some c.args.i)) c.self.view_is ∙ sym c.full_at.ensures ∙ c.in_default.is in
    let full = no_slot-at xs c.args.i next.small none in
    ap (λ l. present 0 l ++ os) c.in_ok-push.ensures.items
    ∙ insert-push (number_units c.args.i) xs os c.args.i c.args.p full c.self.invariant.bounded (array_index-number (number_units c.args.i) c.args.i refl next.small) next.last refl next.alone
    ∙ ap (λ (v : Indexed g.row.P.Denot). insert_entry same_units (entries v) (number_units c.args.i) c.args.p) c.self.view_is
