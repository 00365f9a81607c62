use Rattle.std.proofs.Common.{◌≡◌, ◌<◌, ◌≤◌, ◌+◌, ◌∷◌, drop, length, sym, ap, ◌∙◌, arith}
use Rattle.std.proofs.lemmas.List.{drop_more, drop_all}
use Rattle.dom_facets.proofs.Showing.{more_values, more_heap, more_facets, all_values, all_heap, all_facets}
use Rattle.dom_facets.proofs.facets.Facets.all.Goals as goal

pub loop-n-preserved : goal.loop-n-preserved
loop-n-preserved c =
    let i = c.loop-n.n-index in
    let nodes = c.args.nodes.now in
    let n = c.n-item.result in
    let less : i < length nodes = omega arith in
    let split : drop i nodes ≡ n ∷ drop (i + 1) nodes = drop_more nodes i n less ∙ ap (λ m. m ∷ drop (i + 1) nodes) (sym c.n-item.is) in
    let heap = c.in_ok-object.ensures.heap in
    let kept = c.in_ok-object.ensures.kept in
    record {
      values = more_values n (drop i nodes) (drop (i + 1) nodes) c.args.document.now c.loop-n.h c.facet.new.h c.loop-n.self c.facet.new.self split heap kept c.in_ok-object.object c.loop-n.values.items c.push.new.self.items _ c.in_ok-object.ensures.object c.in_ok-push.ensures.items c.loop-n.invariant.values;
      heap = more_heap n (drop i nodes) (drop (i + 1) nodes) c.args.document.now c.loop-n.h c.facet.new.h c.loop-n.self c.facet.new.self split heap kept _ c.loop-n.invariant.heap;
      kept = more_facets n (drop i nodes) (drop (i + 1) nodes) c.args.document.now c.loop-n.h c.facet.new.h c.loop-n.self c.facet.new.self split heap kept _ c.loop-n.invariant.kept;
      live = omega (arith, c.in_ok-object.ensures.live, c.loop-n.invariant.live);
    }

pub returns-clause-values : goal.returns-clause-values
returns-clause-values c =
    let past : length c.args.nodes.now ≤ c.loop-n.n-index = omega arith in
    all_values (drop c.loop-n.n-index c.args.nodes.now) c.args.document.now c.loop-n.h c.loop-n.self (drop_all c.loop-n.n-index c.args.nodes.now past) c.loop-n.values.items _ c.loop-n.invariant.values

pub returns-clause-heap : goal.returns-clause-heap
returns-clause-heap c =
    let past : length c.args.nodes.now ≤ c.loop-n.n-index = omega arith in
    all_heap (drop c.loop-n.n-index c.args.nodes.now) c.args.document.now c.loop-n.h c.loop-n.self (drop_all c.loop-n.n-index c.args.nodes.now past) _ c.loop-n.invariant.heap

pub returns-clause-kept : goal.returns-clause-kept
returns-clause-kept c =
    let past : length c.args.nodes.now ≤ c.loop-n.n-index = omega arith in
    all_facets (drop c.loop-n.n-index c.args.nodes.now) c.args.document.now c.loop-n.h c.loop-n.self (drop_all c.loop-n.n-index c.args.nodes.now past) _ c.loop-n.invariant.kept
