use Rattle.std.proofs.Common.{refl}
use Rattle.page_runner.proofs.Begun.{nothing_loaded}
use Rattle.page_runner.proofs.Here.{new_here}
use Rattle.page_runner.proofs.running.begin.Goals as goal

pub returns-clause-here : goal.returns-clause-here
returns-clause-here c = record {
  modules = refl;
  results = nothing_loaded c.in_ok-no_results.field-0.items c.in_ok-no_results.ensures.nothing;
  here = new_here c.args.opened.heap c.in_ok-new.field-0 c.args.opened.globals c.in_ok-new.ensures.store;
  kept = c.in_ok-new-2.ensures;
  left = refl;
}
