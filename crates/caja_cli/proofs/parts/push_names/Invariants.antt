use Rattle.std.proofs.Common.{◌≡◌, ◌++◌, drop}
use Rattle.caja_cli.specs.Output.{group_words}
use Rattle.caja_cli.proofs.parts.push_names.Given as goal

abbrev pub invariant-loop-number : goal.invariant-loop-number
invariant-loop-number l = l.out.items ++ group_words l.names (drop l.number-index l.modules) ≡ l.fn.out.items ++ group_words l.names l.modules
