-- What entering a statement does, in the words of its code.
use Rattle.std.proofs.Common.{◌≡◌, ℕ, List, sym, ap, ◌∙◌, rules, Global}
use Rattle.std.specs.declared.rc.Rc.{Rc}
use Rattle.es3_tree.specs.Tree as t
use Rattle.es3_language.specs.Store.{Store}
use Rattle.es3_language.specs.Tasks.{Env, with_value}
use Rattle.es3_language.specs.Statements.{branch_side, for_keys, stmt_plan}
use Rattle.es3_moves.specs.Code.{plain_expr, plain_stmt, plain_target}
use Rattle.es3_moves.specs.declared.code.ExprCode.{ExprCode, the_lemmas}
use Rattle.es3_moves.specs.declared.code.StmtCode.{StmtCode}
use Rattle.es3_moves.specs.declared.code.TargetCode.{TargetCode}
use Rattle.es3_moves.specs.declared.code.StmtCode.TheVariants as s

pub view_with : (e : Rc ExprCode Global) (x : Rc StmtCode Global) → plain_stmt (s.With e x) ≡ t.with_object (plain_expr e.value) (plain_stmt x.value)
view_with e x = search (rules, the_lemmas)

-- the plan of a statement is that of its tree
pub entered : (code form : StmtCode) (shown : t.Tree t.stmt) (ls : List (List ℕ)) (env : Env) (w : Store) → code ≡ form → plain_stmt form ≡ shown → stmt_plan shown ls env w ≡ stmt_plan (plain_stmt code) ls env w
entered code form shown ls env w is view = ap (λ p. stmt_plan p ls env w) (sym (ap plain_stmt is ∙ view))

-- the parts of a form are shared
pub sides_shared : (e : t.Tree t.expr) (x x' : StmtCode) (o o' : t.Tree t.maybe_stmt) (env env' : Env) (w : Store) → x' ≡ x → o' ≡ o → env' ≡ env → with_value e env' w (branch_side (plain_stmt x') o' env) ≡ with_value e env w (branch_side (plain_stmt x) o env)
sides_shared e x x' o o' env env' w same other place =
    ap (λ n. with_value e n w (branch_side (plain_stmt x') o' env)) place
    ∙ ap (λ k. with_value e env w (branch_side (plain_stmt k) o' env)) same
    ∙ ap (λ k. with_value e env w (branch_side (plain_stmt x) k env)) other

pub keys_shared : (e : t.Tree t.expr) (k k' : TargetCode) (x x' : StmtCode) (ls ls' : List (List ℕ)) (env env' : Env) (w : Store) → k' ≡ k → x' ≡ x → ls' ≡ ls → env' ≡ env → with_value e env' w (for_keys (plain_target k') (plain_stmt x') ls' env) ≡ with_value e env w (for_keys (plain_target k) (plain_stmt x) ls env)
keys_shared e k k' x x' ls ls' env env' w target same labels place =
    ap (λ n. with_value e n w (for_keys (plain_target k') (plain_stmt x') ls' env)) place
    ∙ ap (λ n. with_value e env w (for_keys (plain_target n) (plain_stmt x') ls' env)) target
    ∙ ap (λ n. with_value e env w (for_keys (plain_target k) (plain_stmt n) ls' env)) same
    ∙ ap (λ n. with_value e env w (for_keys (plain_target k) (plain_stmt x) n env)) labels
