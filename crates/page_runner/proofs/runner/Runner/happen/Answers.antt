use Rattle.std.proofs.Common.{◌≡◌, ◌<◌, [], ◌∷◌, length, rules, refl, sym, ◌∙◌, subst, arith}
use Rattle.std.specs.Prelude.{OnOk, IfErr}
use Rattle.std.proofs.lemmas.List.{nil_from_length}
use Rattle.page_deeds.specs.Shown.{by_nothing}
use Rattle.es3_objects.specs.declared.value.Stop.TheVariants.{Memory}
use Rattle.heap_rows.specs.Doing.{ended}
use Rattle.page_log.specs.Items.{label_of}
use Rattle.tamed_dom.specs.Lent.{object_of}
use Rattle.page_natives.specs.Natives.{kept_of, tells}
use Rattle.page_runner.specs.Page.{listeners, node_turns}
use Rattle.page_runner.specs.Runner.{node_label}
use Rattle.page_runner.specs.declared.runner.Runner.{Runner}
use Rattle.page_runner.proofs.Happened.{NodeTold, nobody, somebody}
use Rattle.page_runner.proofs.runner.Runner.happen.Goals as goal

pub returns-then-is_empty-clause-came : goal.returns-then-is_empty-clause-came
returns-then-is_empty-clause-came c =
    let a = c.args.self.now in
    let b : Runner = record a { natives = c.tell_end.new.self } in
    let fs = listeners c.args.kind c.args.root c.args.number a.natives.dom in
    let node = object_of c.args.root c.args.number a.natives.dom in
    let empty : length c.in_ok-functions.functions.items ≡ 0 = grind arith in
    let given : c.in_ok-functions.functions.items ≡ fs = search (c.listeners.ensures, c.in_ok-functions.was, c.map_err.ensures.cases, rules) in
    let none : fs ≡ [] = sym given ∙ nil_from_length c.in_ok-functions.functions.items empty in
    let named : label_of c.in_ok-label.label ≡ node_label c.args.kind c.args.event c.args.id.now c.args.root = search (c.node_label.ensures, c.in_ok-label.was, c.map_err-then-is_empty.ensures.cases, rules) in
    let told : OnOk c.map_err-then-is_empty-2.result (kept_of b.natives ≡ tells (ended (node_label c.args.kind c.args.event c.args.id.now c.args.root) by_nothing ∷ []) (kept_of a.natives)) = search (named, c.tell_end.ensures.ok, c.map_err-then-is_empty-2.ensures.cases, rules) in
    let memory : IfErr c.map_err-then-is_empty-2.result (λ e. e ≡ Memory) = search (c.map_err-then-is_empty-2.ensures.cases, rules) in
    nobody a b c.args.kind c.args.event c.args.id.now c.args.root c.args.number node fs c.map_err-then-is_empty-2.result none refl refl refl refl told memory

pub returns-clause-came : goal.returns-clause-came
returns-clause-came c =
    let a = c.args.self.now in
    let fs = listeners c.args.kind c.args.root c.args.number a.natives.dom in
    let node = object_of c.args.root c.args.number a.natives.dom in
    let given : c.in_ok-functions.functions.items ≡ fs = search (c.listeners.ensures, c.in_ok-functions.was, c.map_err.ensures.cases, rules) in
    let told = subst (λ v. NodeTold a c.args.kind c.args.event c.args.id.now c.args.root (node_turns v c.in_ok-functions.functions.items) c.tell_listeners.result c.tell_listeners.new.self) c.object_of-node.ensures c.tell_listeners.ensures.came in
    let some : 0 < length c.in_ok-functions.functions.items = grind arith in
    somebody a c.tell_listeners.new.self c.args.kind c.args.event c.args.id.now c.args.root c.args.number node c.in_ok-functions.functions.items fs c.tell_listeners.result some given told
