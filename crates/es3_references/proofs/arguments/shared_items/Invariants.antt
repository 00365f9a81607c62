use Rattle.std.proofs.Common.{◌≡◌, ◌-◌, ◌++◌, drop}
use Rattle.std.specs.Prelude.{map}
use Rattle.es3_moves.specs.Code.{names_of}
use Rattle.es3_moves.specs.Texts.{plain_item}
use Rattle.es3_references.specs.Shares.{shared_front}
use Rattle.es3_references.proofs.arguments.shared_items.Given as goal

abbrev pub invariant-loop-i : goal.invariant-loop-i
invariant-loop-i l =
    map plain_item l.items.items ++ shared_front l.i (drop l.i (names_of l.params)) (l.count - l.i)
    ≡ shared_front 0 (names_of l.fn.params) l.fn.count
