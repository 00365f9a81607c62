use Rattle.std.proofs.Common.{◌≡◌, drop}
use Rattle.es3_lexer.proofs.spelling.find_in.Given as goal
use Rattle.es3_lexer.specs.Tables.{found_in}

abbrev pub invariant-loop-entry : goal.invariant-loop-entry
invariant-loop-entry g l = found_in (drop l.entry-index l.table) l.s ≡ found_in l.table l.s
