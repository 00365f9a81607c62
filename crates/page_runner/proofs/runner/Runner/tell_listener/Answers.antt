use Rattle.std.proofs.Common.{◌≡◌, [], ◌∷◌, Err, rules, refl, subst}
use Rattle.std.specs.Prelude.{OnOk}
use Rattle.heap_rows.specs.Doing.{ended}
use Rattle.page_natives.specs.Natives.{kept_of, tells}
use Rattle.page_log.specs.Items.{label_of}
use Rattle.page_runner.specs.Page.{end_of_turn}
use Rattle.page_runner.specs.Runner.{node_label}
use Rattle.page_runner.specs.declared.runner.Runner.{Runner}
use Rattle.page_runner.proofs.Happened.{listener_cut, listener_told}
use Rattle.page_runner.proofs.runner.Runner.tell_listener.Goals as goal

pub returns-in_err-completion-clause-came : goal.returns-in_err-completion-clause-came
returns-in_err-completion-clause-came c =
    let a = c.args.self.now in
    let e = c.in_err-completion.field-0.0 in
    let failed : c.from_residual.result ≡ Err e = search rules in
    listener_cut a c.call_listener.new.self c.args.kind c.args.event c.args.id.now c.args.root c.args.node.now c.args.function e c.from_residual.result failed c.in_err-completion.ensures.came

pub returns-clause-came : goal.returns-clause-came
returns-clause-came c =
    let a = c.args.self.now in
    let b = c.call_listener.new.self in
    let d : Runner = record b { natives = c.tell.new.natives } in
    let how = c.in_ok-completion.completion in
    let named : label_of c.in_ok-label.label ≡ node_label c.args.kind c.args.event c.args.id.now c.args.root = search (c.node_label.ensures, c.in_ok-label.was, c.map_err.ensures.cases, rules) in
    let told = subst (λ l. OnOk c.tell.result (kept_of c.tell.new.natives ≡ tells (ended l (end_of_turn b.heap how) ∷ []) (kept_of b.natives))) named c.tell.ensures.told in
    listener_told a b d c.args.kind c.args.event c.args.id.now c.args.root c.args.node.now c.args.function how c.tell.result c.in_ok-completion.ensures.came refl refl refl c.in_ok-completion.ensures.results told c.tell.ensures.stop
