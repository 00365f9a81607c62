use Rattle.std.proofs.Common.{◌≡◌, ◌≤◌, drop, length}
use Rattle.std.specs.Prelude.{map}
use Rattle.es3_language.specs.Arguments.{put_shared}
use Rattle.es3_moves.specs.Texts.{plain_share}
use Rattle.es3_references.proofs.arguments.put_shared.Given as goal

abbrev pub invariant-loop-shared : goal.invariant-loop-shared
invariant-loop-shared l = record {
  items : put_shared (map plain_share (drop l.shared-index l.texts.shared.items)) l.c l.name l.value l.h ≡ put_shared (map plain_share l.texts.shared.items) l.c l.name l.value l.fn.h;
  live : length l.fn.h.list ≤ length l.h.list;
}
