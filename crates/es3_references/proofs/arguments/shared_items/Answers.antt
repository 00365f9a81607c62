use Rattle.std.proofs.Common.{arith}
use Rattle.std.specs.Prelude.{map}
use Rattle.es3_moves.specs.Code.{names_of}
use Rattle.es3_moves.specs.Texts.{plain_item}
use Rattle.es3_references.specs.Shares.{shared_front}
use Rattle.es3_references.proofs.Sharing.{front_more, front_full}
use Rattle.es3_references.proofs.arguments.shared_items.Goals as goal

pub returns-then-i-count : goal.returns-then-i-count
returns-then-i-count c =
    front_full c.loop-i.i c.args.count (names_of c.args.params.now) (map plain_item c.loop-i.items.items) (shared_front 0 (names_of c.args.params.now) c.args.count) (omega arith) c.loop-i.invariant

pub loop-i-preserved : goal.loop-i-preserved
loop-i-preserved c =
    let xs = names_of c.args.params.now in
    front_more c.loop-i.i c.args.count xs (map plain_item c.loop-i.items.items) (map plain_item c.push_item.new.items.items) (shared_front 0 xs c.args.count) (omega arith) c.in_ok-push_item.ensures c.loop-i.invariant
