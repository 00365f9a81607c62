use Rattle.std.proofs.Common.{ap, sym, ◌∙◌}
use Rattle.caja_units.specs.Index.{number_units}
use Rattle.property_tables.specs.Indexed.{entries}
use Rattle.es3_objects.specs.Properties.{find}
use Rattle.es3_objects.proofs.Listed.{seen, find-item}
use Rattle.es3_objects.proofs.properties.Properties.find_item.Goals as goal

pub returns : goal.returns
returns c =
    let l = c.self.inside.length in
    let es = entries c.self.inside.others in
    let k = number_units c.args.i in
    ap (find k) (sym c.self.view_is) ∙ find-item l c.args.i es c.requires ∙ ap (seen k) (sym c.in_ok-found.ensures)
