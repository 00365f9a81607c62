use Rattle.std.proofs.Common.{ap, ◌∙◌}
use Rattle.caja_units.specs.Index.{number_units}
use Rattle.property_tables.specs.Indexed.{entries}
use Rattle.es3_objects.specs.Properties.{defined}
use Rattle.es3_objects.specs.Held.{listed, with_length}
use Rattle.es3_objects.proofs.Listed.{field, defined-listed, defined-other, item-other}
use Rattle.es3_objects.proofs.Plain.{item-plain}
use Rattle.es3_objects.proofs.properties.Properties.define_item.Goals as goal

pub returns-clause-ok : goal.returns-clause-ok
returns-clause-ok c =
    let l = c.self.inside.length in
    let es = entries c.self.inside.others in
    let k = number_units c.args.i in
    ap (λ x. with_length l (listed x)) c.in_ok-insert_at.ensures.ok ∙ ap (with_length l) (defined-listed k c.args.value c.args.attrs es)
    ∙ defined-other l k c.args.value c.args.attrs (listed es) (item-other l c.args.i c.requires) ∙ ap (defined k c.args.value c.args.attrs) c.self.view_is

pub invariant_of-self-2 : goal.invariant_of-self-2
invariant_of-self-2 c = λ is.
    let kept = c.stays_plain-plain.ensures is in
    item-plain c.self.inside.others c.insert_at.new.self c.args.i (field c.args.value c.args.attrs) c.in_ok-insert_at.ensures.there c.in_ok-insert_at.ensures.next c.requires kept.2 kept.1 (c.self.invariant kept.0)
