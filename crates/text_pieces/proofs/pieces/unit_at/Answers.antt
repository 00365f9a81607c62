use Rattle.std.proofs.Common.{sym, ◌∙◌}
use Rattle.text_pieces.proofs.Concat.{read_here, read_later}
use Rattle.text_pieces.proofs.pieces.unit_at.Goals as goal

pub returns-then-at-units : goal.returns-then-at-units
returns-then-at-units c =
    rw (c.units-units.ensures) (sym (read_here c.args.pieces.now c.loop-piece.piece-index c.piece-item.result c.loop-piece.at c.loop-piece-test.true c.piece-item.is (rw (sym c.units-units.ensures) c.if-at-units.true)) ∙ c.loop-piece.invariant)

pub loop-piece-preserved : goal.loop-piece-preserved
loop-piece-preserved c =
    rw (c.units-units.ensures) (sym (read_later c.args.pieces.now c.loop-piece.piece-index c.piece-item.result c.loop-piece.at c.loop-piece-test.true c.piece-item.is (rw (sym c.units-units.ensures) c.if-at-units.false)) ∙ c.loop-piece.invariant)
