-- Statements that mean the same directly in the module and elsewhere: all but expressions.
use Rattle.std.proofs.Common.{◌≡◌, ℕ, Bool, true, false, refl, sym, ◌∙◌, rules}
use Rattle.cajita_tree.specs.declared.CExpr.{CExpr, the_lemmas}
use Rattle.cajita_tree.specs.declared.CExpr.TheViews.{roll-out-CStmt}
use Rattle.cajita_tree.specs.declared.CStmt.{CStmt, CStmt-F, out-CStmt, roll-CStmt}
use Rattle.cajita_tree.specs.declared.CStmt.TheVariants as s
use Rattle.cajita_tree.specs.Tree as c
use Rattle.cajita_tree.specs.View as source
use Rattle.cajita_tree.proofs.Rows.{views}
use Rattle.cajita_rewrite.specs.Rewrite.{rewritten}

abbrev is_expression : c.Tree c.stmt → Bool
is_expression (c.expression e) = true
is_expression x = false

no_expression : (x : CStmt) → ((e : CExpr) → x ≡ s.Expr e → ⊥) → is_expression (source.stmt x) ≡ false
no_expression x h =
    elim (out-CStmt x) as (λ o. x ≡ roll-CStmt o → is_expression (source.stmt x) ≡ false) [
      | CStmt-F.CStmt::Expr e ↦ λ is. absurd (h e (is ∙ s.rolls-Expr e))
      | _ ↦ λ is. search (rules, the_lemmas, views)
    ] (sym (roll-out-CStmt x))

same : (n : ℕ) (x : c.Tree c.stmt) → is_expression x ≡ false → rewritten false c.stmt n x ≡ rewritten true c.stmt n x
unfolding rewritten
same n (c.expression e) h = absurd cc
same n (c.for_in (c.variable x) e b) h = refl
same n (c.for_in (c.member o k) e b) h = refl
same n x h = refl

-- a statement that is no expression
pub same_directly : (n : ℕ) (x : CStmt) → ((e : CExpr) → x ≡ s.Expr e → ⊥) → rewritten false c.stmt n (source.stmt x) ≡ rewritten true c.stmt n (source.stmt x)
same_directly n x h = same n (source.stmt x) (no_expression x h)
