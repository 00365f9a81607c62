use Rattle.std.proofs.Common.{◌≡◌, ◌++◌, drop}
use Rattle.es3_tree.specs.Tree as t
use Rattle.es3_language.specs.Hoisting.{vars_in}
use Rattle.es3_moves.specs.Code.{names_of, plain_stmts, plain_cases}
use Rattle.es3_hoisting.proofs.vars.+declares.Given as goal

abbrev pub invariant-push_stmts-loop-s : goal.invariant-push_stmts-loop-s
invariant-push_stmts-loop-s l = names_of l.names.items ++ vars_in t.stmts (plain_stmts (drop l.s-index l.body)) ≡ names_of l.fn.names.items ++ vars_in t.stmts (plain_stmts l.body)

abbrev pub invariant-push_cases-loop-case : goal.invariant-push_cases-loop-case
invariant-push_cases-loop-case l = names_of l.names.items ++ vars_in t.cases (plain_cases (drop l.case-index l.cases)) ≡ names_of l.fn.names.items ++ vars_in t.cases (plain_cases l.cases)
