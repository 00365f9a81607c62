use Rattle.std.proofs.Common.{◌≡◌, ◌++◌, All}
use Rattle.std.specs.Vec.Iter.{into_iter_items}
use Rattle.module_loader.specs.Turns.{granted_pairs}
use Rattle.page_runner.specs.Deeds.{grants_of, GrantFits}
use Rattle.page_runner.specs.Runner.{results_of}
use Rattle.page_runner.proofs.values.granted_values.Given as goal

abbrev pub invariant-loop-name : goal.invariant-loop-name
invariant-loop-name l = record {
  values : l.values.items ++ granted_pairs l.modules (results_of l.results) l.dom (grants_of (into_iter_items l.name-iterator)) ≡ granted_pairs l.modules (results_of l.results) l.dom (grants_of l.fn.grants.items);
  fit : All (λ g. GrantFits g.1) (into_iter_items l.name-iterator);
}
