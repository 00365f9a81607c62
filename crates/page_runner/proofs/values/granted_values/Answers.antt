use Rattle.std.proofs.Common.{◌≡◌, ◌∷◌, rules}
use Rattle.std.specs.Vec.Iter.{into_iter_items}
use Rattle.page_runner.specs.Runner.{results_of}
use Rattle.page_runner.proofs.Granted.{one_more, others_fit}
use Rattle.page_runner.proofs.values.granted_values.Goals as goal

pub loop-name-preserved : goal.loop-name-preserved
loop-name-preserved c =
    let rest = into_iter_items c.next.new.self in
    let steps : into_iter_items c.loop-name.name-iterator ≡ (c.in-Some.name, c.in-Some.grant) ∷ rest = search rules in
    record {
      values =
          one_more c.args.modules (results_of c.args.results.now) c.args.dom.now c.loop-name.values.items c.push.new.self.items (into_iter_items c.loop-name.name-iterator) rest c.in-Some.name c.in-Some.grant c.in_ok-value.value _ c.loop-name.invariant.values
          steps c.in_ok-value.ensures c.in_ok-push.ensures.items;
      fit = others_fit (into_iter_items c.loop-name.name-iterator) rest c.in-Some.name c.in-Some.grant steps c.loop-name.invariant.fit;
    }
