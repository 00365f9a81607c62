use Rattle.std.proofs.Common.{◌≡◌, true, false, ◌&&◌, is_some, ap, sym, ◌∙◌}
use Rattle.caja_units.specs.Units.{same_units}
use Rattle.property_tables.specs.Indexed.{entries}
use Rattle.es3_objects.specs.Properties.{find}
use Rattle.es3_objects.specs.Held.{listed}
use Rattle.es3_objects.proofs.Listed.{seen, asks, find-listed, find-length, find-other}
use Rattle.es3_objects.proofs.properties.Properties.find.Goals as goal

pub returns-then-asks_length : goal.returns-then-asks_length
returns-then-asks_length c =
    let l = c.self.inside.length in
    let es = entries c.self.inside.others in
    let asked : asks l c.args.k.now ≡ true = ap (λ j. is_some l && same_units c.args.k.now j) (sym c.requires) ∙ sym c.asks_length.ensures ∙ c.if-asks_length.true in
    ap (find c.args.k.now) (sym c.self.view_is) ∙ find-length l c.args.k.now (listed es) asked ∙ ap (seen c.args.k.now) (sym c.as_ref.ensures.value)

pub returns : goal.returns
returns c =
    let l = c.self.inside.length in
    let es = entries c.self.inside.others in
    let asked : asks l c.args.k.now ≡ false = ap (λ j. is_some l && same_units c.args.k.now j) (sym c.requires) ∙ sym c.asks_length.ensures ∙ c.if-asks_length.false in
    ap (find c.args.k.now) (sym c.self.view_is) ∙ find-other l c.args.k.now (listed es) asked ∙ find-listed c.args.k.now es ∙ ap (seen c.args.k.now) (sym c.get.ensures)
