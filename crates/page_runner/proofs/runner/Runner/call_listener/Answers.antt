use Rattle.std.proofs.Common.{◌≡◌, true, false, [], ◌∷◌, Some, rules, refl, sym, ap, ◌∙◌}
use Rattle.es3_objects.specs.declared.value.Value.TheVariants.{Undefined}
use Rattle.es3_machine.specs.Machine.{a_call}
use Rattle.guard_marks.specs.Closures.{is_closure}
use Rattle.page_runner.specs.declared.runner.Runner.{Runner}
use Rattle.page_runner.proofs.Happened.{listener_called, listener_silent}
use Rattle.page_runner.proofs.runner.Runner.call_listener.Goals as goal

pub returns-then-not-listens-clause-came : goal.returns-then-not-listens-clause-came
returns-then-not-listens-clause-came c =
    let a = c.args.self.now in
    let heard : c.in_ok-listens.listens ≡ is_closure a.heap c.args.function = search (c.is_closure.ensures, c.in_ok-listens.was, c.map_err.ensures.cases, rules) in
    let deaf : is_closure a.heap c.args.function ≡ false = sym heard ∙ c.if-not-listens.true in
    listener_silent a c.args.node.now c.args.function deaf

pub returns-clause-came : goal.returns-clause-came
returns-clause-came c =
    let a = c.args.self.now in
    let b : Runner = record a { machine = c.start_call.new.self } in
    let heard : c.in_ok-listens.listens ≡ is_closure a.heap c.args.function = search (c.is_closure.ensures, c.in_ok-listens.was, c.map_err.ensures.cases, rules) in
    let listening : is_closure a.heap c.args.function ≡ true = sym heard ∙ c.if-not-listens.false in
    let one : c.in_ok-arguments.arguments.items ≡ c.args.node.now ∷ [] = search (c.alone.ensures, c.in_ok-arguments.was, c.map_err-2.ensures.cases, rules) in
    let started = c.start_call.ensures.started ∙ ap (λ vs. Some (a_call c.args.function Undefined vs 0)) one in
    listener_called a b c.run.new.self c.args.node.now c.args.function c.run.result listening c.run.ensures.came started c.start_call.ensures.store refl refl refl
