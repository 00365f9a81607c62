use Rattle.es3_printer.proofs.Stacked.{one_more}
use Rattle.es3_printer.proofs.piece.put.Goals as goal

pub loop-piece-preserved : goal.loop-piece-preserved
loop-piece-preserved c =
    one_more c.loop-piece.piece-iterator.iter.rest.now c.next.new.self.iter.rest.now c.loop-piece.rest.items c.push.new.self.items c.in-Some.piece.now
    _ _ c.in-Some.ensures.steps c.in_ok-push.ensures.items c.loop-piece.invariant.0 c.loop-piece.invariant.1
