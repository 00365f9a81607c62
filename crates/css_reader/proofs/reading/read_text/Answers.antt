use Rattle.std.proofs.Common.{ap, ◌∙◌, arith}
use Rattle.css_grammar.specs.Refusals.{width}
use Rattle.css_reader.proofs.Widths.{units_width}
use Rattle.css_reader.proofs.reading.read_text.Goals as goal

pub read_units-requires : goal.read_units-requires
read_units-requires c =
    let e = ap width (c.deref.ensures.value ∙ c.in-Ok.ensures) ∙ units_width c.args.text.now c.utf8.text in
    omega (arith, e)
