use Rattle.std.proofs.Common.{◌≡◌, ◌<◌, arith, ap, sym, subst, ◌∙◌, ◌++◌, Some, None, length, false, refl}
use Rattle.indexmap.specs.IndexMap.{insert_entry}
use Rattle.caja_units.specs.Units.{same_units}
use Rattle.property_tables.specs.Indexed.{Indexed, IsIndexed, present, entries, full_slot}
use Rattle.caja_units.specs.Index.{array_index}
use Rattle.caja_units.proofs.Indices.{array_index-gives}
use Rattle.property_tables.proofs.Slots.{insert-behind, insert-push, insert-kept-behind, push-kept, mixed-kept}
use Rattle.property_tables.proofs.indexed.IndexedProps.insert_new.Goals as goal

pub invariant_of-self-in_default : goal.invariant_of-self-in_default
invariant_of-self-in_default g c =
    let xs = c.self.inside.slots.items in
    let os = c.self.inside.others in
    let other : array_index c.args.k.now ≡ None = sym c.canonical_index.ensures ∙ c.in_default.is in
    subst (λ l. IsIndexed xs l c.self.inside.mixed) (sym c.in_ok-insert.ensures.ok) (insert-kept-behind c.args.k.now c.args.p xs os other c.self.invariant)

pub returns-in_default-clause-ok : goal.returns-in_default-clause-ok
returns-in_default-clause-ok g c =
    let xs = c.self.inside.slots.items in
    let os = c.self.inside.others in
    let full : full_slot c.args.k.now xs ≡ None = ap (λ (v : Indexed g.row.P.Denot). full_slot c.args.k.now v.slots) c.self.view_is ∙ c.requires in
    ap (λ l. present 0 xs ++ l) c.in_ok-insert.ensures.ok ∙ insert-behind c.args.k.now xs os c.args.p full c.self.invariant.bounded
    ∙ ap (λ (v : Indexed g.row.P.Denot). insert_entry same_units (entries v) c.args.k.now c.args.p) c.self.view_is

pub invariant_of-self-then-is_empty : goal.invariant_of-self-then-is_empty
invariant_of-self-then-is_empty g c =
    let xs = c.self.inside.slots.items in
    let os = c.self.inside.others in
    let index : array_index c.args.k.now ≡ Some c.in-Some.i = sym c.canonical_index.ensures ∙ c.in-Some.is in
    let small = (array_index-gives c.args.k.now c.in-Some.i index).1 in
    let few : length xs < 4294967295 = omega (arith, small, c.if-i-len.true, c.len.ensures) in
    subst (λ l. IsIndexed l os c.self.inside.mixed) (sym c.in_ok-push.ensures.items) (push-kept xs os c.self.inside.mixed (Some c.args.p) few (c.if-is_empty.ensures.0 refl) c.if-self.false)

pub returns-then-is_empty-clause-ok : goal.returns-then-is_empty-clause-ok
returns-then-is_empty-clause-ok g c =
    let xs = c.self.inside.slots.items in
    let os = c.self.inside.others in
    let full : full_slot c.args.k.now xs ≡ None = ap (λ (v : Indexed g.row.P.Denot). full_slot c.args.k.now v.slots) c.self.view_is ∙ c.requires in
    let index : array_index c.args.k.now ≡ Some c.in-Some.i = sym c.canonical_index.ensures ∙ c.in-Some.is in
    let text = (array_index-gives c.args.k.now c.in-Some.i index).0 in
    let last : c.in-Some.i ≡ length xs = omega (arith, c.if-i-len.true, c.len.ensures) in
    ap (λ l. present 0 l ++ os) c.in_ok-push.ensures.items ∙ insert-push c.args.k.now xs os c.in-Some.i c.args.p full c.self.invariant.bounded index last text (c.if-is_empty.ensures.0 refl)
    ∙ ap (λ (v : Indexed g.row.P.Denot). insert_entry same_units (entries v) c.args.k.now c.args.p) c.self.view_is

pub invariant_of-self-then-self : goal.invariant_of-self-then-self
invariant_of-self-then-self g c = mixed-kept c.self.inside.slots.items c.self.inside.others c.insert-then-self.new.self c.self.inside.mixed c.if-self.true c.self.invariant

pub returns-then-self-clause-ok : goal.returns-then-self-clause-ok
returns-then-self-clause-ok g c =
    let xs = c.self.inside.slots.items in
    let os = c.self.inside.others in
    let full : full_slot c.args.k.now xs ≡ None = ap (λ (v : Indexed g.row.P.Denot). full_slot c.args.k.now v.slots) c.self.view_is ∙ c.requires in
    ap (λ l. present 0 xs ++ l) c.in_ok-insert-2.ensures.ok ∙ insert-behind c.args.k.now xs os c.args.p full c.self.invariant.bounded
    ∙ ap (λ (v : Indexed g.row.P.Denot). insert_entry same_units (entries v) c.args.k.now c.args.p) c.self.view_is

pub as_table-requires : goal.as_table-requires
as_table-requires g c =
    subst (λ l. IsIndexed l c.self.inside.others false) (sym c.deref.ensures.value) (subst (IsIndexed c.self.inside.slots.items c.self.inside.others) c.if-self.false c.self.invariant)
