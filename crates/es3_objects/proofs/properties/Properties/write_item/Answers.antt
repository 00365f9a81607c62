use Rattle.std.proofs.Common.{option_copied, ap, sym, ◌∙◌}
use Rattle.caja_units.specs.Index.{number_units}
use Rattle.es3_objects.specs.Properties.{defined}
use Rattle.es3_objects.specs.Held.{attrs_found}
use Rattle.std.proofs.lemmas.Result.{on_ok_weaker}
use Rattle.es3_objects.proofs.Listed.{written-defined, attrs-seen}
use Rattle.es3_objects.proofs.properties.Properties.write_item.Goals as goal

pub returns-clause-ok : goal.returns-clause-ok
returns-clause-ok c =
    let k = number_units c.args.i in
    let ps = c.args.self.now in
    let found = c.in_ok-found.ensures in
    on_ok_weaker c.define_item.result (λ is. is ∙ ap (λ a. defined k c.args.value a ps) (c.attrs_of-attrs.ensures ∙ attrs-seen k (option_copied c.in_ok-found.found) ∙ sym (ap attrs_found found)) ∙ written-defined k c.args.value ps) c.define_item.ensures.ok
