use Rattle.std.proofs.Common.{sym, ◌∙◌}
use Rattle.caja_units.specs.Index.{array_index}
use Rattle.public_properties.proofs.Items.{no_item, item_past, not_below}
use Rattle.public_properties.proofs.reading.item_or_method.Goals as goal
use Rattle.public_properties.proofs.reading.item_or_method.Goals.{in_default-via-in-Some+in_ok-array_len+else-branch, in_default-via-in_default}

pub returns-in_default : goal.returns-in_default
returns-in_default c =
    let k = c.args.k.now in
    let h = c.args.h.now in
    elim c.in_default.branch [
      | in_default-via-in-Some+in_ok-array_len+else-branch w ↦
          let past = not_below w.in-Some.index _ _ _ w.from.ensures w.in_ok-array_len.ensures w.if-branch.false in
          rw (item_past (array_index k) w.in-Some.index h c.args.o k (sym c.canonical_index.ensures ∙ w.in-Some.is) past) c.method.ensures
      | in_default-via-in_default w ↦ rw (no_item (array_index k) h c.args.o k (sym c.canonical_index.ensures ∙ w.in_default.is)) c.method.ensures
    ]
