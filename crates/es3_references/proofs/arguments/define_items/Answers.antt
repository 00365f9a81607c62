use Rattle.std.proofs.Common.{refl, arith}
use Rattle.caja_units.specs.Index.{number_units}
use Rattle.es3_language.specs.Arguments.{with_items}
use Rattle.es3_moves.specs.Code.{names_of}
use Rattle.es3_references.specs.Shares.{item_value}
use Rattle.es3_references.proofs.Sharing.{items_more}
use Rattle.es3_references.proofs.arguments.define_items.Goals as goal

pub loop-i-preserved : goal.loop-i-preserved
loop-i-preserved c =
    let xs = names_of c.args.params.now in
    let v = c.index-args-i.result in
    record { items = items_more c.args.object c.loop-i.i xs c.args.args.now v (item_value xs c.loop-i.i v c.args.names.now) (number_units c.loop-i.i) c.args.names.now c.loop-i.h c.define_item.new.h (with_items c.args.object 0 xs c.args.args.now c.args.names.now c.args.h.now) (omega arith) c.index-args-i.is refl refl c.in_ok-define_item.ensures.store c.loop-i.invariant.items; live = omega arith }
