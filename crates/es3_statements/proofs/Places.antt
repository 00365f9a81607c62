-- What is left of lists of nodes, from a place on.
use Rattle.std.proofs.Common.{◌≡◌, ℕ, zero, suc, ◌+◌, ◌<◌, ◌≤◌, List, [], ◌∷◌, Option, Some, None, length, get_or, refl, sym, ap, ◌∙◌, arith, Global}
use Rattle.std.proofs.lemmas.Option.{same_Some}
use Rattle.std.specs.declared.rc.Rc.{Rc}
use Rattle.es3_tree.specs.Tree as t
use Rattle.es3_language.specs.Store.{Store}
use Rattle.es3_language.specs.References.{reference}
use Rattle.es3_language.specs.Tasks.{Plan, Env, with_value}
use Rattle.es3_language.specs.Statements.{var_list, after_var}
use Rattle.es3_moves.specs.Code.{vars_at, names_at, maybe_expr}
use Rattle.es3_moves.specs.declared.code.VarCode.{VarCode}
use Rattle.es3_statements.specs.Lists.{valued}

one : (i : ℕ) → i + 1 ≡ suc i
one i = omega arith

vars_here : (xs : List VarCode) (i : ℕ) (x : VarCode) → i < length xs → x ≡ get_or xs i x → vars_at xs i ≡ t.more_items x.name.value (maybe_expr x.value) (vars_at xs (suc i))
vars_here [] i x h e = absurd (omega arith)
vars_here (y ∷ ys) zero x h e = ap (λ k. t.more_items k.name.value (maybe_expr k.value) (vars_at ys 0)) (sym e)
vars_here (y ∷ ys) (suc i) x h e = vars_here ys i x (omega arith) e

pub vars_more : (xs : List VarCode) (i : ℕ) (x : VarCode) → i < length xs → x ≡ get_or xs i x → vars_at xs i ≡ t.more_items x.name.value (maybe_expr x.value) (vars_at xs (i + 1))
vars_more xs i x h e = vars_here xs i x h e ∙ ap (λ k. t.more_items x.name.value (maybe_expr x.value) (vars_at xs k)) (sym (one i))

pub vars_end : (xs : List VarCode) (i : ℕ) → length xs ≤ i → vars_at xs i ≡ t.no_items
vars_end [] zero h = refl
vars_end [] (suc i) h = refl
vars_end (y ∷ ys) zero h = absurd (omega arith)
vars_end (y ∷ ys) (suc i) h = vars_end ys i (omega arith)

-- the variables of a `var` that have no value do nothing
pub var_none : (is : t.Tree t.items) (env : Env) (s : Store) (end : Store → Plan) → valued is ≡ None → end s ≡ var_list is env s end
var_none t.no_items env s end h = refl
var_none (t.more_items x t.no_expr rest) env s end h = var_none rest env s end h
var_none (t.more_items x (t.some_expr e) rest) env s end h = cc

abbrev Found : Type 0
Found = List ℕ × t.Tree t.expr × t.Tree t.items

pub var_some : (is : t.Tree t.items) (x : List ℕ) (e : t.Tree t.expr) (rest : t.Tree t.items) (env : Env) (s : Store) (end : Store → Plan) → ◌≡◌ {A = Option Found} (Some (x, e, rest)) (valued is) → with_value e env s (after_var (reference env.chain s x) rest env end) ≡ var_list is env s end
var_some t.no_items x e rest env s end h = cc
var_some (t.more_items y t.no_expr more) x e rest env s end h = var_some more x e rest env s end h
var_some (t.more_items y (t.some_expr d) more) x e rest env s end h =
    ap (λ (p : Found). with_value p.1 env s (after_var (reference env.chain s p.0) p.2 env end)) (same_Some {A = Found} (x, e, rest) (y, d, more) h)

names_here : (xs : List (Rc (List ℕ) Global)) (i : ℕ) (x : Rc (List ℕ) Global) → i < length xs → x ≡ get_or xs i x → names_at xs i ≡ x.value ∷ names_at xs (suc i)
names_here [] i x h e = absurd (omega arith)
names_here (y ∷ ys) zero x h e = ap (λ k. k.value ∷ names_at ys 0) (sym e)
names_here (y ∷ ys) (suc i) x h e = names_here ys i x (omega arith) e

pub names_more : (xs : List (Rc (List ℕ) Global)) (i : ℕ) (x : Rc (List ℕ) Global) → i < length xs → x ≡ get_or xs i x → names_at xs i ≡ x.value ∷ names_at xs (i + 1)
names_more xs i x h e = names_here xs i x h e ∙ ap (λ k. x.value ∷ names_at xs k) (sym (one i))

pub names_end : (xs : List (Rc (List ℕ) Global)) (i : ℕ) → length xs ≤ i → names_at xs i ≡ []
names_end [] zero h = refl
names_end [] (suc i) h = refl
names_end (y ∷ ys) zero h = absurd (omega arith)
names_end (y ∷ ys) (suc i) h = names_end ys i (omega arith)
