use Rattle.std.proofs.Common.{◌++◌, ◌∷◌, [], ap, ◌∙◌, arith}
use Rattle.property_tables.specs.Indexed.{present}
use Rattle.es3_objects.specs.Held.{listed, names_of}
use Rattle.es3_objects.proofs.Names.{slot-named}
use Rattle.es3_objects.proofs.properties.push_slots.Goals as goal

pub loop-i-preserved : goal.loop-i-preserved
loop-i-preserved c =
    c.in_ok-push_slot.ensures ∙ ap (λ ns. ns ++ names_of (listed (present c.loop-i.i (c.index-slots-i.result ∷ [])))) c.loop-i.invariant
    ∙ slot-named c.args.names.now.items c.args.slots.now c.loop-i.i c.index-slots-i.result c.index-slots-i.result (omega arith) c.index-slots-i.is
