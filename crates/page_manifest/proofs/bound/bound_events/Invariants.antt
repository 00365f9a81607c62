use Rattle.std.proofs.Common.{◌≡◌, ◌≤◌, ◌+◌, length, map}
use Rattle.page_manifest.specs.Walk.{traverse}
use Rattle.page_manifest.proofs.Chains.{behind}
use Rattle.page_manifest.specs.Bound as spec
use Rattle.page_manifest.specs.NamedView as wanted
use Rattle.std.specs.Vec.Iter.{into_iter_items}
use Rattle.std.specs.Prelude.{vec_len}
use Rattle.event_script.specs.Events.{asked}
use Rattle.page_manifest.proofs.bound.bound_events.Given as goal

abbrev pub invariant-loop-plan : goal.invariant-loop-plan
invariant-loop-plan l = (vec_len l.events + length (into_iter_items l.plan-iterator) ≤ 10000) × (behind (map asked l.events.items) (traverse (spec.bound_event l.modules) (vec_len l.events) (map wanted.plan (into_iter_items l.plan-iterator))) ≡ traverse (spec.bound_event l.modules) 0 (map wanted.plan l.fn.plans.items))
