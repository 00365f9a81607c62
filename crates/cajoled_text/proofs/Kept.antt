-- What the rewriting keeps of statements: whether one ends in an `if` without `else` (ES3 12.5), and whether the clauses of a `switch` have one `default` (12.11).
use Rattle.std.proofs.Common.{◌≡◌, ℕ, ◌+◌, Bool, true, false, refl, ap}
use Rattle.std.specs.Prelude.{not}
use Rattle.es3_printed.proofs.ShownStatements.{plain_is_open, plain_has_default, plain_one_default}
use Rattle.cajita_tree.specs.Tree as c
use Rattle.cajita_rewrite.specs.Rewrite.{temps, rewritten}
use Rattle.cajoled_text.specs.Clean.{is_open, has_default, one_default}

pub still_closed : (m : Bool) (x : c.Tree c.stmt) (n : ℕ) → is_open x ≡ false → plain_is_open (rewritten m c.stmt n x) ≡ false
unfolding rewritten
still_closed m (c.branch e x c.no_stmt) n h = absurd cc
still_closed m (c.branch e x (c.some_stmt y)) n h = still_closed false y (n + (temps c.expr e + temps c.stmt x)) h
still_closed m (c.while_loop e x) n h = still_closed false x (n + temps c.expr e) h
still_closed m (c.for_loop i e u x) n h = still_closed false x (n + (temps c.first i + (temps c.maybe_expr e + temps c.maybe_expr u))) h
still_closed m (c.for_in (c.variable x) e b) n h = refl
still_closed m (c.for_in (c.member o k) e b) n h = refl
still_closed m (c.label l x) n h = still_closed false x n h
still_closed true (c.expression e) n h = refl
still_closed false (c.expression e) n h = refl
still_closed m _ n h = refl

same_default : (cs : c.Tree c.cases) (n : ℕ) → plain_has_default (rewritten false c.cases n cs) ≡ has_default cs
unfolding rewritten
same_default c.no_cases n = refl
same_default (c.more_cases c.no_expr xs cs) n = refl
same_default (c.more_cases (c.some_expr e) xs cs) n = same_default cs (n + (temps c.expr e + temps c.stmts xs))

pub still_one : (cs : c.Tree c.cases) (n : ℕ) → plain_one_default (rewritten false c.cases n cs) ≡ one_default cs
unfolding rewritten
still_one c.no_cases n = refl
still_one (c.more_cases c.no_expr xs cs) n = ap not (same_default cs (n + (temps c.maybe_expr c.no_expr + temps c.stmts xs)))
still_one (c.more_cases (c.some_expr e) xs cs) n = still_one cs (n + (temps c.expr e + temps c.stmts xs))
