use Rattle.std.proofs.Common.{◌≡◌, true, false, ◌&&◌, is_some, ap, sym, ◌∙◌}
use Rattle.caja_units.specs.Units.{same_units}
use Rattle.property_tables.specs.Indexed.{entries}
use Rattle.es3_objects.specs.Held.{listed, with_length, taken}
use Rattle.es3_objects.proofs.Listed.{asks, taken-listed, taken-length, taken-other}
use Rattle.es3_objects.proofs.properties.Properties.take.Goals as goal

pub returns-then-asks_length : goal.returns-then-asks_length
returns-then-asks_length c =
    let l = c.self.inside.length in
    let es = entries c.self.inside.others in
    let asked : asks l c.args.k.now ≡ true = ap (λ j. is_some l && same_units c.args.k.now j) (sym c.requires) ∙ sym c.asks_length.ensures ∙ c.if-asks_length.true in
    taken-length l c.args.k.now (listed es) asked ∙ ap (taken c.args.k.now) c.self.view_is

pub returns : goal.returns
returns c =
    let l = c.self.inside.length in
    let es = entries c.self.inside.others in
    let asked : asks l c.args.k.now ≡ false = ap (λ j. is_some l && same_units c.args.k.now j) (sym c.requires) ∙ sym c.asks_length.ensures ∙ c.if-asks_length.false in
    ap (λ x. with_length l (listed x)) c.remove.ensures.left ∙ ap (with_length l) (taken-listed c.args.k.now es)
    ∙ taken-other l c.args.k.now (listed es) asked ∙ ap (taken c.args.k.now) c.self.view_is
