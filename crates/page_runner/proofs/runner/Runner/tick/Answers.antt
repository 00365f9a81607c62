use Rattle.std.proofs.Common.{◌≡◌, Some, Err, rules, refl, ap, ◌∙◌}
use Rattle.es3_objects.specs.declared.value.Value.TheVariants.{Undefined}
use Rattle.es3_machine.specs.Machine.{a_call}
use Rattle.page_runner.specs.declared.runner.Runner.{Runner}
use Rattle.page_runner.proofs.Here.{started_here}
use Rattle.page_runner.proofs.Done.{TickStarts, tick_cut, tick_told}
use Rattle.page_runner.proofs.runner.Runner.tick.Goals as goal

pub returns-in_err-completion-clause-came : goal.returns-in_err-completion-clause-came
returns-in_err-completion-clause-came c =
    let a = c.args.self.now in
    let b : Runner = record a { machine = c.start_call.new.self; natives = c.take_waiting.new.self } in
    let e = c.in_err-completion.field-0.0 in
    let starts : TickStarts c.args.owner c.in-Some.function a b = record {
      first = c.in-Some.ensures.taken;
      kept = c.in-Some.ensures.left;
      started = c.start_call.ensures.started ∙ ap (λ vs. Some (a_call c.in-Some.function Undefined vs c.args.owner)) c.new-arguments.ensures.items;
      here = λ x here. started_here a.heap a.machine c.start_call.new.self x c.start_call.ensures.store here;
      left = refl;
    } in
    let failed : c.from_residual.result ≡ Err e = search rules in
    tick_cut c.args.event c.args.owner c.in-Some.function a b c.run.new.self e c.from_residual.result failed starts c.in_err-completion.ensures.came

pub returns-clause-came : goal.returns-clause-came
returns-clause-came c =
    let a = c.args.self.now in
    let b : Runner = record a { machine = c.start_call.new.self; natives = c.take_waiting.new.self } in
    let d : Runner = record c.run.new.self { natives = c.tell.new.natives } in
    let starts : TickStarts c.args.owner c.in-Some.function a b = record {
      first = c.in-Some.ensures.taken;
      kept = c.in-Some.ensures.left;
      started = c.start_call.ensures.started ∙ ap (λ vs. Some (a_call c.in-Some.function Undefined vs c.args.owner)) c.new-arguments.ensures.items;
      here = λ x here. started_here a.heap a.machine c.start_call.new.self x c.start_call.ensures.store here;
      left = refl;
    } in
    tick_told c.args.event c.args.owner c.in-Some.function a b c.run.new.self d c.in_ok-completion.completion c.tell.result starts c.in_ok-completion.ensures.came refl refl refl c.in_ok-completion.ensures.results c.tell.ensures.told c.tell.ensures.stop
