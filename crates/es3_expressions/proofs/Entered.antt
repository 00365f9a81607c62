-- What a form does, whatever the store, is what its code does.
use Rattle.std.proofs.Common.{◌≡◌, IfOk, Result, Ok, Err, sym, ap, ◌∙◌}
use Rattle.es3_tree.specs.Tree as t
use Rattle.es3_language.specs.Store.{Store}
use Rattle.es3_language.specs.Tasks.{Plan, Env}
use Rattle.es3_language.specs.Expressions.{expr_plan, target_plan}
use Rattle.es3_moves.specs.Code.{plain_expr}
use Rattle.es3_moves.specs.Moves.{move_plan}
use Rattle.es3_moves.specs.declared.code.ExprCode.{ExprCode}
use Rattle.es3_moves.specs.declared.frame.Move.{Move}

pub entered : {E : Type 0} (r : Result Move E) (x : ExprCode) (p : t.Tree t.expr) (env : Env) (s : Store) → plain_expr x ≡ p → IfOk r (λ m. (z : Store) → move_plan m z ≡ expr_plan p env z) → IfOk r (λ m. move_plan m s ≡ expr_plan (plain_expr x) env s)
entered (Ok m) x p env s is f = f s ∙ ap (λ k. expr_plan k env s) (sym is)
entered (Err e) x p env s is f = f

pub targeted : {E : Type 0} (r : Result Move E) (x : ExprCode) (p : t.Tree t.expr) (env : Env) (s : Store) → plain_expr x ≡ p → IfOk r (λ m. (z : Store) → move_plan m z ≡ target_plan p env z) → IfOk r (λ m. move_plan m s ≡ target_plan (plain_expr x) env s)
targeted (Ok m) x p env s is f = f s ∙ ap (λ k. target_plan k env s) (sym is)
targeted (Err e) x p env s is f = f

-- a plan that a move has at one store
pub at_store : {E : Type 0} (r : Result Move E) (p : Store → Plan) (q : Plan) (s : Store) → p s ≡ q → IfOk r (λ m. (z : Store) → move_plan m z ≡ p z) → IfOk r (λ m. move_plan m s ≡ q)
at_store (Ok m) p q s is f = f s ∙ is
at_store (Err e) p q s is f = f
