use Rattle.std.proofs.Common.{◌≡◌, ◌≤◌, drop, length}
use Rattle.std.specs.Prelude.{map}
use Rattle.es3_language.specs.Arguments.{put_items}
use Rattle.es3_moves.specs.Texts.{plain_item}
use Rattle.es3_references.proofs.arguments.put_items.Given as goal

abbrev pub invariant-loop-item : goal.invariant-loop-item
invariant-loop-item l = record {
  items : put_items l.object (map plain_item (drop l.item-index l.items)) l.name l.value l.h ≡ put_items l.fn.object (map plain_item l.fn.items) l.fn.name l.fn.value l.fn.h;
  live : length l.fn.h.list ≤ length l.h.list;
}
