-- What is left of a list of statements, from a place on.
use Rattle.std.proofs.Common.{◌≡◌, ℕ, zero, suc, ◌+◌, ◌<◌, ◌≤◌, List, [], ◌∷◌, length, get_or, refl, sym, ap, ◌∙◌, arith, Global}
use Rattle.std.specs.declared.rc.Rc.{Rc}
use Rattle.es3_tree.specs.Tree as t
use Rattle.es3_moves.specs.Code.{plain_stmt, stmts_at}
use Rattle.es3_moves.specs.declared.code.StmtCode.{StmtCode}

one : (i : ℕ) → i + 1 ≡ suc i
one i = omega arith

stmts_here : (xs : List (Rc StmtCode Global)) (i : ℕ) (x : Rc StmtCode Global) → i < length xs → x ≡ get_or xs i x → stmts_at xs i ≡ t.more_stmts (plain_stmt x.value) (stmts_at xs (suc i))
stmts_here [] i x h e = absurd (omega arith)
stmts_here (y ∷ ys) zero x h e = ap (λ k. t.more_stmts (plain_stmt k.value) (stmts_at ys 0)) (sym e)
stmts_here (y ∷ ys) (suc i) x h e = stmts_here ys i x (omega arith) e

pub stmts_more : (xs : List (Rc StmtCode Global)) (i : ℕ) (x : Rc StmtCode Global) → i < length xs → x ≡ get_or xs i x → stmts_at xs i ≡ t.more_stmts (plain_stmt x.value) (stmts_at xs (i + 1))
stmts_more xs i x h e = stmts_here xs i x h e ∙ ap (λ k. t.more_stmts (plain_stmt x.value) (stmts_at xs k)) (sym (one i))

pub stmts_end : (xs : List (Rc StmtCode Global)) (i : ℕ) → length xs ≤ i → stmts_at xs i ≡ t.no_stmts
stmts_end [] zero h = refl
stmts_end [] (suc i) h = refl
stmts_end (y ∷ ys) zero h = absurd (omega arith)
stmts_end (y ∷ ys) (suc i) h = stmts_end ys i (omega arith)
