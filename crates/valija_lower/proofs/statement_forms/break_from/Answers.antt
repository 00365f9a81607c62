use Rattle.std.proofs.Common.{ap, ◌∙◌}
use Rattle.es3_tree.specs.Placed as placed
use Rattle.es3_tree.specs.PlacedView as source
use Rattle.valija_forms.specs.Forms as forms
use Rattle.valija_parts.specs.Held as held
use Rattle.valija_parts.proofs.Made.{made_plain}
use Rattle.valija_lower.proofs.statement_forms.break_from.Goals as goal

pub returns : goal.returns
returns c n = made_plain held.stmt (placed.break (forms.label_of (source.word_of c.args.label.now)) 0) n c.in_ok-boxed.field-0 (ap source.stmt c.in_ok-boxed.ensures ∙ c.make_break.ensures.with_places ∙ ap (λ l. placed.break l 0) c.in_ok-label.ensures)
