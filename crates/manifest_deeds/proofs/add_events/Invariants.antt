use Rattle.std.proofs.Common.{◌≡◌, ◌≤◌, ◌+◌, ◌++◌, length, map}
use Rattle.std.specs.Vec.Iter.{into_iter_items}
use Rattle.event_script.specs.Events.{asked}
use Rattle.page_manifest.specs.Deeds.{events}
use Rattle.page_binding.specs.Nodes.{node_of}
use Rattle.page_runner.specs.Deeds.{deeds_of}
use Rattle.manifest_deeds.proofs.add_events.Given as goal

abbrev pub invariant-loop-event : goal.invariant-loop-event
invariant-loop-event l = record {
  few : l.number + length (into_iter_items l.event-iterator) ≤ 10000;
  so_far : deeds_of l.list.items ++ events (node_of l.document) l.number (map asked (into_iter_items l.event-iterator)) ≡ deeds_of l.fn.list.items ++ events (node_of l.document) 0 (map asked l.fn.events.items);
}
