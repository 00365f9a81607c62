use Rattle.std.proofs.Common.{◌≡◌, ◌≤◌, length}
use Rattle.es3_machine.specs.Outcome.{run_of, work}
use Rattle.es3_machine.proofs.engine.Engine.run_from.Given as goal

abbrev pub invariant-run : goal.invariant-run
invariant-run g l =
    record {
      same : run_of g.N.Natives.table l.self l.h (g.N.Natives.state l.natives) l.now ≡ run_of g.N.Natives.table l.fn.self l.fn.h (g.N.Natives.state l.fn.natives) l.fn.first;
      live : length l.fn.h.list ≤ length l.h.list;
    }

abbrev pub decreases-run : goal.decreases-run
decreases-run g l = work l.self l.now
