use Rattle.std.proofs.Common.{arith, ap, refl, ◌∙◌}
use Rattle.property_tables.specs.Indexed.{with_slot, with_entry}
use Rattle.property_tables.proofs.Slots.{slot-step, entry-step}
use Rattle.property_tables.proofs.indexed.as_table.Goals as goal

pub loop-i-preserved : goal.loop-i-preserved
loop-i-preserved g c =
    c.in_ok-add_slot.ensures ∙ ap (with_slot c.loop-i.i c.index-slots-i.result) c.loop-i.invariant
    ∙ slot-step c.args.slots.now c.loop-i.i c.index-slots-i.result c.index-slots-i.result c.requires.bounded (omega arith) c.index-slots-i.is

pub loop-at-preserved : goal.loop-at-preserved
loop-at-preserved g c =
    c.in_ok-add_entry.ensures ∙ ap (with_entry _) c.loop-at.invariant
    ∙ entry-step c.args.slots.now c.args.others.now c.loop-at.at _ c.requires c.len-at-end.ensures.distinct (omega (arith, c.len-at-end.ensures.count)) refl
