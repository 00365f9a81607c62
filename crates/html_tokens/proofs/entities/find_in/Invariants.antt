use Rattle.std.proofs.Common.{◌≡◌, drop}
use Rattle.html_tokens.proofs.entities.find_in.Given as goal
use Rattle.html_tokens.specs.Found.{found_in}

abbrev pub invariant-loop-entry : goal.invariant-loop-entry
invariant-loop-entry l = found_in (drop l.entry-index l.table) l.s ≡ found_in l.table l.s
