use Rattle.std.proofs.Common.{sym, ◌∙◌}
use Rattle.html_pieces.proofs.Oks.{ok_is}
use Rattle.html_pieces.proofs.Points.{point_raw, point_markup, point_text}
use Rattle.html_pieces.proofs.point.any_point.Goals as goal
use Rattle.html_pieces.specs.Views.{step_of}

pub returns-then-n-gt0 : goal.returns-then-n-gt0
returns-then-n-gt0 c = point_raw c.args.first c.args.inner.now c.args.s.now _ c.raw_here-n.result c.raw_here-n.ensures.is c.if-n-gt0.true c.in_ok-units_of.ensures

pub returns-then-begins_markup : goal.returns-then-begins_markup
returns-then-begins_markup c = ok_is step_of c.markup.result _ _ c.markup.ensures (point_markup c.args.first c.args.inner.now c.args.s.now c.raw_here-n.result c.raw_here-n.ensures.is c.if-n-gt0.false (sym c.begins_markup.ensures ∙ c.if-begins_markup.true))

pub returns : goal.returns
returns c = ok_is step_of c.text_at.result _ _ c.text_at.ensures (point_text c.args.first c.args.inner.now c.args.s.now c.raw_here-n.result c.raw_here-n.ensures.is c.if-n-gt0.false (sym c.begins_markup.ensures ∙ c.if-begins_markup.false))
