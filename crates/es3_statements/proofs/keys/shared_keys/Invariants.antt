use Rattle.std.proofs.Common.{◌≡◌, ◌++◌}
use Rattle.std.specs.Vec.Iter.{into_iter_items}
use Rattle.es3_moves.specs.Code.{names_of}
use Rattle.es3_statements.proofs.keys.shared_keys.Given as goal

abbrev pub invariant-loop-key : goal.invariant-loop-key
invariant-loop-key l = names_of l.shared.items ++ into_iter_items l.key-iterator ≡ l.fn.keys.items
