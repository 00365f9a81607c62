use Rattle.std.proofs.Common.{option_copied, ap, sym, ◌∙◌}
use Rattle.es3_objects.specs.Held.{attrs_found}
use Rattle.es3_objects.proofs.Listed.{attrs-seen}
use Rattle.es3_objects.proofs.properties.Properties.attrs.Goals as goal

pub returns : goal.returns
returns c = c.attrs_of.ensures ∙ attrs-seen c.args.k.now (option_copied c.find.result) ∙ sym (ap attrs_found c.find.ensures)
