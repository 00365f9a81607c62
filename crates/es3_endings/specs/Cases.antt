-- The clauses of a `switch` that are looked for (ES3 12.11).
use Rattle.std.specs.Prelude.{List, Option, Some, None, ◌+◌}
use Rattle.es3_tree.specs.Tree as t
use Rattle.es3_moves.specs.Code.{plain_expr, plain_stmt, cases_at, stmts_at}
use Rattle.es3_moves.specs.declared.code.CaseCode.{CaseCode}
use Rattle.es3_endings.specs.declared.clauses.Tested.{Tested}
use Rattle.es3_endings.specs.declared.clauses.Filled.{Filled}

-- the clauses from the `default` on
abbrev pub from_default : t.Tree t.cases → t.Tree t.cases
from_default t.no_cases = t.no_cases
from_default (t.more_cases (t.some_expr e) xs cs) = from_default cs
from_default (t.more_cases t.no_expr xs cs) = t.more_cases t.no_expr xs cs

-- the first clause that has an expression: the expression, the clauses from there on, and those behind it
abbrev pub tested : t.Tree t.cases → Option (t.Tree t.expr × t.Tree t.cases × t.Tree t.cases)
tested t.no_cases = None
tested (t.more_cases t.no_expr xs cs) = tested cs
tested (t.more_cases (t.some_expr e) xs cs) = Some (e, t.more_cases (t.some_expr e) xs cs, cs)

abbrev pub plain_tested : List CaseCode → Tested → t.Tree t.expr × t.Tree t.cases × t.Tree t.cases
plain_tested cs n = (plain_expr n.test.value, cases_at cs n.at, cases_at cs (n.at + 1))

-- the first clause that has statements: the first of them, those behind it, and the clauses behind it
abbrev pub filled : t.Tree t.cases → Option (t.Tree t.stmt × t.Tree t.stmts × t.Tree t.cases)
filled t.no_cases = None
filled (t.more_cases e t.no_stmts cs) = filled cs
filled (t.more_cases e (t.more_stmts x xs) cs) = Some (x, xs, cs)

abbrev pub plain_filled : List CaseCode → Filled → t.Tree t.stmt × t.Tree t.stmts × t.Tree t.cases
plain_filled cs n = (plain_stmt n.first.value, stmts_at n.body.value.items 1, cases_at cs n.next)
