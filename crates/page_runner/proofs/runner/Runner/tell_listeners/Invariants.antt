use Rattle.std.proofs.Common.{◌≡◌}
use Rattle.std.specs.Vec.Iter.{into_iter_items}
use Rattle.page_runner.specs.Page.{node_turns}
use Rattle.page_runner.proofs.Happened.{ToldFrom}
use Rattle.page_runner.proofs.runner.Runner.tell_listeners.Given as goal

abbrev pub invariant-loop-function : goal.invariant-loop-function
invariant-loop-function l = record {
  came : ToldFrom l.fn.self l.self l.kind l.event l.id l.root (node_turns l.node l.fn.functions.items) (node_turns l.node (into_iter_items l.function-iterator));
  modules : l.self.modules ≡ l.fn.self.modules;
  results : l.self.results ≡ l.fn.self.results;
}
