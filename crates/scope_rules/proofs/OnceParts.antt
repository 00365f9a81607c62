-- Names of two parts, each name once, and the names that a call and a `switch` import.
use Rattle.std.proofs.Common.{◌≡◌, ℕ, ◌+◌, ◌<◌, List, [], ◌∷◌, ◌++◌, length, get_or, drop, cond, refl, sym, ap, ◌∙◌, ◌⊎◌, inl, inr}
use Rattle.std.specs.Prelude.{Result, Ok, Err, IfOk}
use Rattle.std.specs.Global.{Vec, Box}
use Rattle.std.proofs.lemmas.List.{at_drop_more}
use Rattle.es3_tree.specs.declared.Expr.{Expr}
use Rattle.es3_tree.specs.declared.Stmt.{Stmt}
use Rattle.es3_tree.specs.declared.Case.{Case}
use Rattle.es3_tree.specs.declared.Expr.TheVariants as e
use Rattle.es3_tree.specs.declared.Stmt.TheVariants as s
use Rattle.es3_tree.specs.Tree as t
use Rattle.es3_tree.specs.PlacedView as v
use Rattle.es3_tree.proofs.PlacedRows.{placed_call, placed_new, placed_switch}
use Rattle.cajita_names.specs.Rules.{is_among}
use Rattle.cajita_names.specs.Scope.{Scope}
use Rattle.scope_rules.specs.Free.{free}
use Rattle.cajita_names.specs.Once.{once_after}

abbrev pub Names : Type 0
Names = List (List ℕ)

-- those of the front, and then those behind
pub once_parts : (seen xs ys : Names) → once_after seen (xs ++ ys) ≡ once_after (once_after seen xs) ys
once_parts seen [] ys = refl
once_parts seen (x ∷ xs) ys = once_parts (cond (is_among seen x) seen (seen ++ x ∷ [])) xs ys

-- a list gone over up to i, with the element there
pub turn : {A : Type 0} (all : List A → Names) (part : Names) (xs : List A) (i : ℕ) (x : A) (before after : Names) → i < length xs → x ≡ get_or xs i x
    → all (x ∷ drop (i + 1) xs) ≡ part ++ all (drop (i + 1) xs) → after ≡ once_after before part
    → once_after after (all (drop (i + 1) xs)) ≡ once_after before (all (drop i xs))
turn all part xs i x before after h is parts now =
    ap (λ m. once_after m (all (drop (i + 1) xs))) now
    ∙ sym (once_parts before part (all (drop (i + 1) xs)))
    ∙ ap (once_after before) (sym (at_drop_more all xs i x h ∙ ap (λ z. all (z ∷ drop (i + 1) xs)) (sym is) ∙ parts))

-- of two parts the second one is left
pub second : {E : Type 0} (r : Result (Vec (List ℕ)) E) (start mid a b c whole : Names) → mid ≡ once_after start a → c ≡ b → whole ≡ a ++ b
    → IfOk r (λ z. z.items ≡ once_after mid c) → IfOk r (λ z. z.items ≡ once_after start whole)
second (Ok z) start mid a b c whole front same parts h =
    h ∙ ap (once_after mid) same ∙ ap (λ m. once_after m b) front ∙ sym (once_parts start a b) ∙ ap (once_after start) (sym parts)
second (Err e) start mid a b c whole front same parts h = tt

pub free_of_call : (around : Scope) {x : Expr} (b : Box Expr) (y : Vec Expr) → (x ≡ e.Call b y) ⊎ (x ≡ e.New b y)
    → free around t.expr (v.expr x) ≡ free around t.expr (v.expr b.value) ++ free around t.exprs (v.of_exprs y.items)
unfolding free
free_of_call around b y (inl h) = ap (λ x. free around t.expr (v.expr x)) h ∙ ap (free around t.expr) (placed_call b y)
free_of_call around b y (inr h) = ap (λ x. free around t.expr (v.expr x)) h ∙ ap (free around t.expr) (placed_new b y)

pub free_of_switch : (around : Scope) {x : Stmt} (y : Expr) (z : Vec Case) → x ≡ s.Switch y z
    → free around t.stmt (v.stmt x) ≡ free around t.expr (v.expr y) ++ free around t.cases (v.of_cases z.items)
unfolding free
free_of_switch around y z h = ap (λ x. free around t.stmt (v.stmt x)) h ∙ ap (free around t.stmt) (placed_switch y z)
