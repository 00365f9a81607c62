use Rattle.std.proofs.Common.{◌≡◌, Some, sym, ap, ◌∙◌, subst}
use Rattle.es3_moves.specs.Texts.{store_of}
use Rattle.es3_machine.specs.Machine.{run_started, Ran}
use Rattle.es3_machine.specs.Held.{Held, plain_start, started_of, store_in}
use Rattle.es3_machine.specs.Outcome.{answer_of}
use Rattle.es3_machine.proofs.Answers.{ran, run_of_started}
use Rattle.es3_machine.proofs.Kept.{started_kept, told_kept}
use Rattle.es3_machine.proofs.machine.Machine.run.Goals as goal
use Rattle.es3_machine.proofs.machine.Machine.run.Goals.{in-Ok, in-Err}

pub returns-clause-ran : goal.returns-clause-ran
returns-clause-ran g c =
    let T = g.N.Natives.table in
    let before = g.N.Natives.state c.args.natives.now in
    let after = g.N.Natives.state c.run_start.new.natives in
    let machine : Held = c.args.self.now in
    let start = c.in-Some.start in
    let texts = c.self.inside.engine.texts in
    let end = store_of c.run_start.new.h c.run_start.new.engine.texts in
    let whole = run_started T (started_of machine) (store_in c.args.h.now machine) before c.args.steps in
    let some : machine.started ≡ Some start = ap (λ (m : Held). m.started) (sym c.self.view_is) ∙ sym c.take.ensures.value ∙ c.in-Some.is in
    let made : machine.texts ≡ texts = ap (λ (m : Held). m.texts) (sym c.self.view_is) in
    let same = run_of_started T machine start texts c.args.h.now before c.args.steps some made in
    elim c.match-run_start.branch [
      | in-Ok w ↦
          subst (λ r. Ran r whole c.args.steps end after) (sym (w.result-is ∙ w.answer.ensures)) (subst (λ r. Ran (answer_of w.in-Ok.outcome c.args.steps c.run_start.new.engine.left) r c.args.steps end after) same (ran T (plain_start start) (store_of c.args.h.now texts) end before after w.in-Ok.outcome c.run_start.new.engine.left c.args.steps w.in-Ok.ensures.count w.in-Ok.ensures.same))
      | in-Err w ↦ subst (λ r. Ran r whole c.args.steps end after) (sym w.result-is) tt
    ]

pub returns-clause-ids : goal.returns-clause-ids
returns-clause-ids g c =
    λ fits live start.
    let T = g.N.Natives.table in
    let before = g.N.Natives.state c.args.natives.now in
    let after = g.N.Natives.state c.run_start.new.natives in
    let machine : Held = c.args.self.now in
    let s = store_in c.args.h.now machine in
    let end = store_of c.run_start.new.h c.run_start.new.engine.texts in
    told_kept g.N.Natives.fits c.args.h.now _ (run_started T (started_of machine) s before c.args.steps) c.args.steps end after (returns-clause-ran g c)
    (started_kept g.met.N.Natives.keeps_live (started_of machine) s before c.args.steps live fits start)
