use Rattle.std.proofs.Common.{◌≡◌, true, ap, ◌∙◌, arith}
use Rattle.es3_moves.specs.Texts.{store_of}
use Rattle.es3_machine.specs.Outcome.{ended, is_over}
use Rattle.es3_machine.specs.declared.engine.Outcome.{Outcome}
use Rattle.es3_machine.proofs.Steps.{did_all}
use Rattle.es3_machine.proofs.engine.Engine.run_from.Goals as goal

pub returns-clause-ran : goal.returns-clause-ran
returns-clause-ran g c =
    let z = g.N.Natives.state c.run.natives in
    let over : is_over c.run.self c.run.now ≡ true = grind arith in
    ap (λ (o : Outcome). ended o (store_of c.run.h c.run.self.texts) z c.run.self.left) c.how_ended.ensures ∙ did_all g.N.Natives.table c.run.self c.run.h z c.run.now over ∙ c.run.invariant.same
