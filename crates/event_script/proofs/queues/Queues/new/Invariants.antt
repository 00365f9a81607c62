-- As many queues as are counted, and each is empty.
use Rattle.std.proofs.Common.{◌≡◌, []}
use Rattle.std.specs.Prelude.{map, replicate}
use Rattle.event_script.proofs.queues.Queues.new.Given as goal

abbrev pub invariant-loop-module : goal.invariant-loop-module
invariant-loop-module l = map (λ q. q.items) l.queues.items ≡ replicate l._module []
