use Rattle.std.proofs.Common.{length}
use Rattle.html_grammar.proofs.PieceBounds.{part_fits}
use Rattle.html_grammar.specs.Fits.{PartFits}
use Rattle.html_pieces.proofs.Oks.{ok_has}
use Rattle.html_pieces.proofs.parts.part_at.Goals as goal
use Rattle.html_pieces.specs.Views.{kind_of, part_of}

pub returns-clause-fits : goal.returns-clause-fits
returns-clause-fits c = ok_has part_of (λ p. PartFits (length c.args.s.now) p) c.any_part.result _ c.any_part.ensures (part_fits (kind_of c.args.kind) c.args.s.now)
