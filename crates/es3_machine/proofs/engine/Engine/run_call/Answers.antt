use Rattle.std.proofs.Common.{◌≡◌, ◌∙◌}
use Rattle.std.proofs.lemmas.Result.{IfOk-weaker}
use Rattle.es3_language.specs.Meaning.{run_call}
use Rattle.es3_moves.specs.Texts.{store_of}
use Rattle.es3_machine.specs.Outcome.{ended}
use Rattle.es3_machine.proofs.Started.{call_begins}
use Rattle.es3_machine.proofs.engine.Engine.run_call.Goals as goal

pub returns-clause-ran : goal.returns-clause-ran
returns-clause-ran g c =
    let T = g.N.Natives.table in
    let state = g.N.Natives.state in
    let after = c.run_from.new in
    let s = store_of c.args.h.now c.args.self.now.texts in
    IfOk-weaker c.run_from.result _ (λ o. ended o (store_of after.h after.self.texts) (state after.natives) after.self.left ≡ run_call T c.args.f c.args.this c.args.args.items c.args.by s (state c.args.natives.now) c.args.steps)
    (λ o e. e ∙ call_begins T c.new.result.items c.args.f c.args.this c.args.args c.in_ok-env.env c.args.by s (state c.args.natives.now) c.args.steps c.new.ensures.items (c.in_ok-env.ensures c.args.h.now))
    c.run_from.ensures.ran
