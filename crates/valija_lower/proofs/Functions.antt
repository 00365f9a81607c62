-- Statements that declare a function, and those that declare none.
use Rattle.std.proofs.Common.{◌≡◌, ℕ, None, Some, false, refl, sym, ap, ◌∙◌, rules}
use Rattle.es3_tree.specs.declared.Name.{Name}
use Rattle.es3_tree.specs.declared.Func.{Func}
use Rattle.es3_tree.specs.declared.Expr.{the_lemmas}
use Rattle.es3_tree.specs.declared.Expr.TheViews.{roll-out-Stmt}
use Rattle.es3_tree.specs.declared.Stmt.{Stmt, Stmt-F, out-Stmt, roll-Stmt}
use Rattle.es3_tree.specs.declared.Stmt.TheVariants as s
use Rattle.es3_tree.specs.Tree as t
use Rattle.es3_tree.specs.Placed as p
use Rattle.es3_tree.specs.Placed.{Placed}
use Rattle.es3_tree.specs.PlacedView as v
use Rattle.es3_tree.proofs.PlacedRows.{placed_views, placed_declared}
use Rattle.cajita_names.specs.Scope.{Scope, in_named}
use Rattle.valija_forms.specs.Forms.{declares, named as with_name}
use Rattle.valija_parts.specs.Lower.{lowered_function, functions_before, declares_function}

pub undeclared : (x : Stmt) → ((f : Func) → x ≡ s.Func f → ⊥) → false ≡ declares_function (v.stmt x)
undeclared x h =
    elim (out-Stmt x) as (λ o. x ≡ roll-Stmt o → false ≡ declares_function (v.stmt x)) [
      | Stmt-F.Stmt::Func f ↦ λ e. absurd (h f (e ∙ s.rolls-Func f))
      | _ ↦ λ e. search (rules, the_lemmas, placed_views)
    ] (sym (roll-out-Stmt x))

pub declares_one : (a : Scope) (f : Func) (n : Name) {x : Stmt} (rest : Placed t.stmts) → x ≡ s.Func f → f.name ≡ Some n
    → functions_before a (p.more_stmts (v.stmt x) rest)
    ≡ p.more_stmts (declares (v.word n) (lowered_function a (p.fun None (v.words f.params.items) (v.of_stmts f.body.items) f.at))) (functions_before a rest)
unfolding functions_before lowered_function
declares_one a f n rest h named =
    ap (λ y. functions_before a (p.more_stmts y rest)) (ap v.stmt h ∙ placed_declared f)
    ∙ ap (λ m. functions_before a (p.more_stmts (p.declare (p.fun (v.word_of m) (v.words f.params.items) (v.of_stmts f.body.items) f.at)) rest)) named

pub declares_none : (a : Scope) (x : Placed t.stmt) (rest : Placed t.stmts) → false ≡ declares_function x → functions_before a rest ≡ functions_before a (p.more_stmts x rest)
unfolding functions_before
declares_none a (p.declare f) rest h = absurd cc
declares_none a x rest h = refl

pub declares_nameless : (a : Scope) (f : Func) {x : Stmt} (rest : Placed t.stmts) → x ≡ s.Func f → f.name ≡ None → functions_before a rest ≡ functions_before a (p.more_stmts (v.stmt x) rest)
unfolding functions_before
declares_nameless a f rest h none =
    sym (ap (λ y. functions_before a (p.more_stmts y rest)) (ap v.stmt h ∙ placed_declared f)
    ∙ ap (λ m. functions_before a (p.more_stmts (p.declare (p.fun (v.word_of m) (v.words f.params.items) (v.of_stmts f.body.items) f.at)) rest)) none)

-- a function with a name of its own is the one without it, named, in the scope that has the name
pub named_function : (a : Scope) (f : Func) (n : Name) (at : ℕ) → f.name ≡ Some n
    → lowered_function a (v.func f) ≡ with_name (v.word n) (lowered_function (in_named n.text a) (p.fun None (v.words f.params.items) (v.of_stmts f.body.items) at))
unfolding lowered_function
named_function a f n at h = ap (λ m. lowered_function a (p.fun (v.word_of m) (v.words f.params.items) (v.of_stmts f.body.items) f.at)) h
