use Rattle.std.proofs.Common.{◌≡◌, ◌++◌, drop}
use Rattle.es3_language.specs.Hoisting as hoisting
use Rattle.es3_moves.specs.Code.{plain_stmts}
use Rattle.es3_moves.specs.Texts.{funcs_of}
use Rattle.es3_hoisting.proofs.functions.functions_of.Given as goal

abbrev pub invariant-loop-s : goal.invariant-loop-s
invariant-loop-s l = funcs_of l.functions.items ++ hoisting.functions_of (plain_stmts (drop l.s-index l.body)) ≡ hoisting.functions_of (plain_stmts l.body)
