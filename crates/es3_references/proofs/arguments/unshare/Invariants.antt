use Rattle.std.proofs.Common.{◌≡◌, ◌-◌, ◌++◌, drop, take, length}
use Rattle.std.specs.Prelude.{map}
use Rattle.es3_language.specs.Arguments.{unshared}
use Rattle.es3_moves.specs.Texts.{plain_share}
use Rattle.es3_references.proofs.arguments.unshare.Given as goal

abbrev pub invariant-loop-at : goal.invariant-loop-at
invariant-loop-at l =
    take l.at (map plain_share l.shared.items) ++ unshared l.object l.key (drop l.at (map plain_share l.shared.items))
    ≡ unshared l.fn.object l.fn.key (map plain_share l.fn.shared.items)

abbrev pub decreases-loop-at : goal.decreases-loop-at
decreases-loop-at l = length l.shared.items - l.at
