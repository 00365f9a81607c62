use Rattle.std.proofs.Common.{length}
use Rattle.html_grammar.proofs.PieceBounds.{point_fits}
use Rattle.html_grammar.specs.Fits.{StepFits}
use Rattle.html_pieces.proofs.Oks.{ok_has}
use Rattle.html_pieces.proofs.point.point_at.Goals as goal
use Rattle.html_pieces.specs.Views.{step_of}

pub returns-clause-fits : goal.returns-clause-fits
returns-clause-fits c = ok_has step_of (λ x. StepFits (length c.args.s.now) x) c.any_point.result _ c.any_point.ensures (point_fits c.args.first c.args.inner.now c.args.s.now c.requires.some)
