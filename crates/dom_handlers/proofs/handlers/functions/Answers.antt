use Rattle.std.proofs.Common.{◌<◌, length, arith}
use Rattle.dom_handlers.proofs.Kept.{next_found}
use Rattle.dom_handlers.proofs.handlers.functions.Goals as goal

pub loop-place-preserved : goal.loop-place-preserved
loop-place-preserved c =
    let i = c.loop-place.place-index in
    let places = c.args.places.now in
    let less : i < length places = omega arith in
    next_found c.args.kind c.args.handlers.now places i 0 _ c.loop-place.out.items c.push_function.new.out.items _ less c.handler_at.ensures c.in_ok-push_function.ensures c.loop-place.invariant
