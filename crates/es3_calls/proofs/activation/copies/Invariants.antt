use Rattle.std.proofs.Common.{◌≡◌, ◌++◌, drop}
use Rattle.es3_moves.specs.Texts.{funcs_of}
use Rattle.es3_calls.proofs.activation.copies.Given as goal

abbrev pub invariant-loop-function : goal.invariant-loop-function
invariant-loop-function l = funcs_of l.copies.items ++ funcs_of (drop l.function-index l.functions) ≡ funcs_of l.functions
