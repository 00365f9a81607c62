use Rattle.std.proofs.Common.{ap, ◌∙◌}
use Rattle.es3_objects.specs.Properties.{defined}
use Rattle.std.proofs.lemmas.Result.{on_ok_weaker}
use Rattle.es3_objects.proofs.Listed.{written-defined}
use Rattle.es3_objects.proofs.properties.Properties.write.Goals as goal

pub returns-clause-ok : goal.returns-clause-ok
returns-clause-ok c =
    let ps = c.args.self.now in
    on_ok_weaker c.define.result (λ is. is ∙ ap (λ a. defined c.args.k.now c.args.value a ps) c.attrs-attrs.ensures ∙ written-defined c.args.k.now c.args.value ps) c.define.ensures.ok
