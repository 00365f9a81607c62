use Rattle.std.proofs.Common.{◌≡◌, All}
use Rattle.std.specs.Vec.Iter.{into_iter_items}
use Rattle.page_runner.specs.Deeds.{deeds_of, DeedFits}
use Rattle.page_runner.specs.Runner.{Holds}
use Rattle.page_runner.proofs.Loop.{ReachedFrom}
use Rattle.page_runner.proofs.runner.Runner.run_deeds.Given as goal

abbrev pub invariant-loop-deed : goal.invariant-loop-deed
invariant-loop-deed l = record {
  came : ReachedFrom l.fn.self l.self (deeds_of l.fn.deeds.items) (deeds_of (into_iter_items l.deed-iterator));
  modules : l.self.modules ≡ l.fn.self.modules;
  holds : Holds l.self;
  fit : All (DeedFits l.fn.self.modules) (into_iter_items l.deed-iterator);
}
