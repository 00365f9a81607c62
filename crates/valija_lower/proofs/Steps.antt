-- One element more of a list, by what it gives.
use Rattle.std.proofs.Common.{◌≡◌, ℕ, true, false, refl, ap, ◌∙◌}
use Rattle.es3_tree.specs.Tree as t
use Rattle.es3_tree.specs.Placed as p
use Rattle.es3_tree.specs.Placed.{Placed}
use Rattle.cajita_names.specs.Scope.{Scope}
use Rattle.valija_forms.specs.Numbered.{Numbered, both, three}
use Rattle.valija_parts.specs.Lower.{lowered, declares_function}

pub turn_both : {S T : Type 0} (h : S → T → T) (x : Numbered S) (rest : Numbered T) (n m : ℕ) (y : S) → (y, m) ≡ x n → (h y (rest m).0, (rest m).1) ≡ both h x rest n
unfolding both
turn_both h x rest n m y told = ap (λ q. (h q.0 (rest q.1).0, (rest q.1).1)) told

pub turn_three : {S R T : Type 0} (h : S → R → T → T) (x : Numbered S) (z : Numbered R) (rest : Numbered T) (n m k : ℕ) (y : S) (w : R) → (y, m) ≡ x n → (w, k) ≡ z m
    → (h y w (rest k).0, (rest k).1) ≡ three h x z rest n
unfolding three
turn_three h x z rest n m k y w told then =
    ap (λ q. (h y q.0 (rest q.1).0, (rest q.1).1)) then
    ∙ ap (λ q. (h q.0 (z q.1).0 (rest (z q.1).1).0, (rest (z q.1).1).1)) told

-- a statement stands among the others, unless it declares a function
pub stands : (s : Scope) (x : Placed t.stmt) (rest : Placed t.stmts) (n : ℕ) → false ≡ declares_function x
    → both p.more_stmts (lowered s t.stmt x) (lowered s t.stmts rest) n ≡ lowered s t.stmts (p.more_stmts x rest) n
unfolding lowered
stands s (p.declare f) rest n h = absurd cc
stands s x rest n h = refl

pub left_out : (s : Scope) (x : Placed t.stmt) (rest : Placed t.stmts) (n : ℕ) → true ≡ declares_function x → lowered s t.stmts rest n ≡ lowered s t.stmts (p.more_stmts x rest) n
unfolding lowered
left_out s (p.declare f) rest n h = refl
left_out s x rest n h = absurd cc
