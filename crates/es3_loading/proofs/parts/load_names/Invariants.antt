use Rattle.std.proofs.Common.{◌≡◌, ◌++◌, drop}
use Rattle.es3_tree.specs.View.{names}
use Rattle.es3_moves.specs.Code.{names_of}
use Rattle.es3_loading.proofs.parts.load_names.Given as goal

abbrev pub invariant-loop-name : goal.invariant-loop-name
invariant-loop-name l = names_of l.codes.items ++ names (drop l.name-index l.names) ≡ names l.names
