use Rattle.std.proofs.Common.{◌≡◌, List, ◌∷◌, [], Err, rules, sym, ◌∙◌, subst}
use Rattle.std.specs.Vec.Iter.{into_iter_items}
use Rattle.std.proofs.lemmas.List.{nil_from_length}
use Rattle.es3_objects.specs.declared.value.Value.{Value}
use Rattle.module_loader.specs.Turns.{node_plan}
use Rattle.page_runner.specs.Page.{node_turns}
use Rattle.page_runner.proofs.Happened.{ToldFrom, one_more, cut_there, at_last}
use Rattle.page_runner.proofs.runner.Runner.tell_listeners.Goals as goal

pub loop-function-preserved : goal.loop-function-preserved
loop-function-preserved c =
    let p = c.args.self.now in
    let q = c.loop-function.self in
    let q1 = c.tell_listener.new.self in
    let f = c.in-Some.function in
    let node = c.args.node.now in
    let rest = into_iter_items c.next.new.self in
    let us = node_turns node c.args.functions.items in
    let steps : into_iter_items c.loop-function.function-iterator ≡ f ∷ rest = search rules in
    let reached = subst (λ (l : List Value). ToldFrom p q c.args.kind c.args.event c.args.id.now c.args.root us (node_turns node l)) steps c.loop-function.invariant.came in
    record {
      came = one_more p q q1 c.args.kind c.args.event c.args.id.now c.args.root us (λ x y. node_plan node f x) (node_turns node rest) reached c.loop-function.invariant.modules c.in_ok-tell_listener.ensures.came;
      modules = c.in_ok-tell_listener.ensures.modules ∙ c.loop-function.invariant.modules;
      results = c.in_ok-tell_listener.ensures.results ∙ c.loop-function.invariant.results;
    }

pub returns-in_err-tell_listener : goal.returns-in_err-tell_listener
returns-in_err-tell_listener c =
    let p = c.args.self.now in
    let q = c.loop-function.self in
    let q1 = c.tell_listener.new.self in
    let f = c.in-Some.function in
    let node = c.args.node.now in
    let rest = into_iter_items c.next.new.self in
    let us = node_turns node c.args.functions.items in
    let e = c.in_err-tell_listener.field-0.0 in
    let steps : into_iter_items c.loop-function.function-iterator ≡ f ∷ rest = search rules in
    let reached = subst (λ (l : List Value). ToldFrom p q c.args.kind c.args.event c.args.id.now c.args.root us (node_turns node l)) steps c.loop-function.invariant.came in
    let failed : c.from_residual.result ≡ Err e = search rules in
    record {
      came = cut_there p q q1 c.args.kind c.args.event c.args.id.now c.args.root us (λ x y. node_plan node f x) (node_turns node rest) e c.from_residual.result failed reached c.loop-function.invariant.modules c.in_err-tell_listener.ensures.came;
      modules = c.in_err-tell_listener.ensures.modules ∙ c.loop-function.invariant.modules;
      results = c.in_err-tell_listener.ensures.results ∙ c.loop-function.invariant.results;
    }

pub returns : goal.returns
returns c =
    let p = c.args.self.now in
    let q = c.loop-function.self in
    let node = c.args.node.now in
    let us = node_turns node c.args.functions.items in
    let none : into_iter_items c.loop-function.function-iterator ≡ [] = nil_from_length (into_iter_items c.loop-function.function-iterator) (sym c.loop-function.function-iterator.rest.ok.0 ∙ c.in-None.ensures.steps.0) in
    record {
      came = at_last p q c.args.kind c.args.event c.args.id.now c.args.root us (subst (λ (l : List Value). ToldFrom p q c.args.kind c.args.event c.args.id.now c.args.root us (node_turns node l)) none c.loop-function.invariant.came);
      modules = c.loop-function.invariant.modules;
      results = c.loop-function.invariant.results;
    }
