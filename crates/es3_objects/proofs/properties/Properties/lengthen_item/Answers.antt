use Rattle.std.proofs.Common.{refl, ap, sym, ◌∙◌}
use Rattle.caja_units.specs.Index.{number_units}
use Rattle.caja_units.proofs.Indices.{array_index-number}
use Rattle.es3_objects.specs.Properties.{at_least}
use Rattle.es3_objects.proofs.properties.Properties.lengthen_item.Goals as goal

pub returns : goal.returns
returns c = c.lengthen_past.ensures ∙ ap (λ o. at_least o c.args.self.now) (sym (array_index-number (number_units c.args.i) c.args.i refl c.requires.index))
