-- The clauses of a `switch`, from a place on.
use Rattle.std.proofs.Common.{◌≡◌, ℕ, zero, suc, ◌+◌, ◌<◌, ◌≤◌, List, [], ◌∷◌, length, get_or, refl, sym, ap, ◌∙◌, arith}
use Rattle.es3_tree.specs.Tree as t
use Rattle.es3_moves.specs.Code.{plain_stmts, cases_at, maybe_expr}
use Rattle.es3_moves.specs.declared.code.CaseCode.{CaseCode}

one : (i : ℕ) → i + 1 ≡ suc i
one i = omega arith

cases_here : (xs : List CaseCode) (i : ℕ) (x : CaseCode) → i < length xs → x ≡ get_or xs i x → cases_at xs i ≡ t.more_cases (maybe_expr x.test) (plain_stmts x.body.value.items) (cases_at xs (suc i))
cases_here [] i x h e = absurd (omega arith)
cases_here (y ∷ ys) zero x h e = ap (λ k. t.more_cases (maybe_expr k.test) (plain_stmts k.body.value.items) (cases_at ys 0)) (sym e)
cases_here (y ∷ ys) (suc i) x h e = cases_here ys i x (omega arith) e

pub cases_more : (xs : List CaseCode) (i : ℕ) (x : CaseCode) → i < length xs → x ≡ get_or xs i x → cases_at xs i ≡ t.more_cases (maybe_expr x.test) (plain_stmts x.body.value.items) (cases_at xs (i + 1))
cases_more xs i x h e = cases_here xs i x h e ∙ ap (λ k. t.more_cases (maybe_expr x.test) (plain_stmts x.body.value.items) (cases_at xs k)) (sym (one i))

pub cases_end : (xs : List CaseCode) (i : ℕ) → length xs ≤ i → cases_at xs i ≡ t.no_cases
cases_end [] zero h = refl
cases_end [] (suc i) h = refl
cases_end (y ∷ ys) zero h = absurd (omega arith)
cases_end (y ∷ ys) (suc i) h = cases_end ys i (omega arith)
