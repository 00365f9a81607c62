use Rattle.std.proofs.Common.{◌≡◌, replicate}
use Rattle.es3_objects.specs.declared.value.Value.TheVariants.{Undefined}
use Rattle.page_runner.proofs.running.no_results.Given as goal

abbrev pub invariant-loop-owner : goal.invariant-loop-owner
invariant-loop-owner l = l.results.items ≡ replicate l._owner Undefined
