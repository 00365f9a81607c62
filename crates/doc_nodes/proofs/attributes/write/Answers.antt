use Rattle.std.proofs.Common.{arith, ◌∙◌}
use Rattle.std.proofs.lemmas.Grind.{common_steps}
use Rattle.std.proofs.lemmas.Result.{on_ok_weaker}
use Rattle.doc_nodes.proofs.Written.{set-with_value, push-with_value}
use Rattle.doc_nodes.proofs.attributes.write.Goals as goal

pub returns-in-Some : goal.returns-in-Some
returns-in-Some c = grind (arith, common_steps, set-with_value)

pub returns-in-None-clause-ok : goal.returns-in-None-clause-ok
returns-in-None-clause-ok c =
    on_ok_weaker c.push.result (λ is. is ∙ push-with_value c.args.name.now c.args.value c.args.attrs.now.items (cc)) c.push.ensures.ok
