-- Statements that declare a function, and those that declare none.
use Rattle.std.proofs.Common.{◌≡◌, Option, true, false, refl, sym, ap, ◌∙◌, rules}
use Rattle.es3_tree.specs.declared.Func.{Func}
use Rattle.es3_tree.specs.declared.Expr.{the_lemmas}
use Rattle.es3_tree.specs.declared.Expr.TheViews.{roll-out-Stmt}
use Rattle.es3_tree.specs.declared.Stmt.{Stmt, Stmt-F, out-Stmt, roll-Stmt}
use Rattle.es3_tree.specs.declared.Stmt.TheVariants as s
use Rattle.es3_tree.specs.Tree as t
use Rattle.es3_tree.specs.Placed as p
use Rattle.es3_tree.specs.Placed.{Placed}
use Rattle.es3_tree.specs.PlacedView as v
use Rattle.es3_tree.proofs.PlacedRows.{placed_views, placed_declared}
use Rattle.cajita_tree.specs.Tree as c
use Rattle.scope_rules.specs.Declaring.{is_declaration}
use Rattle.cajita_forms.specs.Options.{both}
use Rattle.scope_rules.specs.Resolve.{behind, resolved, declared_functions}

pub undeclared : (x : Stmt) → ((f : Func) → x ≡ s.Func f → ⊥) → false ≡ is_declaration (v.stmt x)
undeclared x h =
    elim (out-Stmt x) as (λ o. x ≡ roll-Stmt o → false ≡ is_declaration (v.stmt x)) [
      | Stmt-F.Stmt::Func f ↦ λ e. absurd (h f (e ∙ s.rolls-Func f))
      | _ ↦ λ e. search (rules, the_lemmas, placed_views)
    ] (sym (roll-out-Stmt x))

-- what stands in front of other statements
pub stands : (x : Placed t.stmt) (one : Option (c.Tree c.stmt)) (rest : Option (c.Tree c.stmts)) → false ≡ is_declaration x → behind x one rest ≡ both c.more_stmts one rest
stands (p.declare f) one rest h = absurd cc
stands x one rest h = refl

pub left_out : (x : Placed t.stmt) (one : Option (c.Tree c.stmt)) (rest : Option (c.Tree c.stmts)) → true ≡ is_declaration x → behind x one rest ≡ rest
left_out (p.declare f) one rest h = refl
left_out x one rest h = absurd cc

-- the functions that statements declare, the first statement apart
pub declares_one : (f : Func) {x : Stmt} (rest : Placed t.stmts) → x ≡ s.Func f
    → declared_functions (p.more_stmts (v.stmt x) rest) ≡ both c.more_funcs (resolved t.func (v.func f)) (declared_functions rest)
unfolding declared_functions
declares_one f rest h = ap (λ y. declared_functions (p.more_stmts y rest)) (ap v.stmt h ∙ placed_declared f)

pub declares_none : (x : Placed t.stmt) (rest : Placed t.stmts) → false ≡ is_declaration x → declared_functions (p.more_stmts x rest) ≡ declared_functions rest
unfolding declared_functions
declares_none (p.declare f) rest h = absurd cc
declares_none x rest h = refl
