use Rattle.std.proofs.Common.{◌≡◌, ◌∙◌, None, arith}
use Rattle.std.specs.List.{position}
use Rattle.std.proofs.lemmas.Grind.{common_steps}
use Rattle.std.proofs.lemmas.Result.{on_ok_weaker}
use Rattle.es3_moves.proofs.Names.{is_named, set-with_name, push-with_name}
use Rattle.es3_moves.proofs.texts.put.Goals as goal

pub returns-in-Some : goal.returns-in-Some
returns-in-Some c = grind (arith, common_steps, set-with_name)

pub returns-in-None : goal.returns-in-None
returns-in-None c =
    let absent : position (is_named c.args.name.now.value) c.args.names.now.items ≡ None = grind (arith, common_steps) in
    on_ok_weaker c.push.result (λ is. is ∙ push-with_name c.args.name.now.value c.args.value c.args.names.now.items absent) c.push.ensures
