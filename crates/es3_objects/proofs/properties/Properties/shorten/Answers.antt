use Rattle.std.proofs.Common.{not, filter, ap, ◌∙◌}
use Rattle.property_tables.specs.Indexed.{entries}
use Rattle.es3_objects.specs.Objects.{Property}
use Rattle.es3_objects.specs.Items.{is_past}
use Rattle.es3_objects.specs.Held.{listed, with_length}
use Rattle.es3_objects.proofs.Listed.{shortened-listed, shortened-length}
use Rattle.es3_objects.proofs.Plain.{shortened-plain}
use Rattle.es3_objects.proofs.properties.Properties.shorten.Goals as goal

pub returns : goal.returns
returns c =
    let l = c.self.inside.length in
    let es = entries c.self.inside.others in
    ap (λ x. with_length l (listed x)) c.drop_from.ensures.left ∙ ap (with_length l) (shortened-listed c.args.count es)
    ∙ shortened-length c.args.count l (listed es) ∙ ap (filter (λ (p : Property). not (is_past c.args.count p))) c.self.view_is

pub invariant_of-self : goal.invariant_of-self
invariant_of-self c = λ is. shortened-plain c.self.inside.others c.drop_from.new.self c.args.count c.drop_from.ensures.parts (c.self.invariant is)
