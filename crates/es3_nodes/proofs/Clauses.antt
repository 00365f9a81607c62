-- What the clauses of a `switch` do, in the words of their code.
use Rattle.std.proofs.Common.{◌≡◌, ℕ, true, List, [], Option, Some, None, refl, ap, ◌∙◌}
use Rattle.std.proofs.lemmas.Option.{same_Some}
use Rattle.plans.specs.Plans.{ends, enter}
use Rattle.es3_tree.specs.Tree as t
use Rattle.es3_objects.specs.declared.value.Value.{Value}
use Rattle.es3_language.specs.Store.{Store}
use Rattle.es3_language.specs.Tasks.{Plan, Env, effect_of, normal, with_value}
use Rattle.es3_language.specs.Lists.{later, list_rest}
use Rattle.es3_language.specs.Statements.{bodies, bodies_rest, default_on, find_case, case_test}
use Rattle.es3_endings.specs.Cases.{from_default, tested, filled}

-- a clause has no value of the clause before it to take along
pub carried_none : (v : Option Value) → later v None ≡ v
carried_none None = refl
carried_none (Some v) = refl

-- clauses without statements do nothing
pub bodies_none : (cs : t.Tree t.cases) (ls : List (List ℕ)) (env : Env) (s : Store) → filled cs ≡ None → ◌≡◌ {A = Plan} (ends (normal None) s) (bodies cs ls env s)
bodies_none t.no_cases ls env s h = refl
bodies_none (t.more_cases e t.no_stmts cs) ls env s h = bodies_none cs ls env s h
bodies_none (t.more_cases e (t.more_stmts x xs) cs) ls env s h = cc

abbrev Statements : Type 0
Statements = t.Tree t.stmt × t.Tree t.stmts × t.Tree t.cases

pub bodies_some : (cs : t.Tree t.cases) (x : t.Tree t.stmt) (xs : t.Tree t.stmts) (rest : t.Tree t.cases) (ls : List (List ℕ)) (env : Env) (s : Store) → ◌≡◌ {A = Option Statements} (Some (x, xs, rest)) (filled cs) → ◌≡◌ {A = Plan} (enter (effect_of x [] env) s (list_rest true xs None env (bodies_rest rest ls env))) (bodies cs ls env s)
bodies_some t.no_cases x xs rest ls env s h = cc
bodies_some (t.more_cases e t.no_stmts cs) x xs rest ls env s h = bodies_some cs x xs rest ls env s h
bodies_some (t.more_cases e (t.more_stmts y ys) cs) x xs rest ls env s h =
    ap (λ (p : Statements). let q : Plan = enter (effect_of p.0 [] env) s (list_rest true p.1 None env (bodies_rest p.2 ls env)) in q) (same_Some {A = Statements} (x, xs, rest) (y, ys, cs) h)

default_bodies : (cs : t.Tree t.cases) (ls : List (List ℕ)) (env : Env) (s : Store) → bodies (from_default cs) ls env s ≡ default_on cs ls env s
default_bodies t.no_cases ls env s = refl
default_bodies (t.more_cases (t.some_expr e) xs cs) ls env s = default_bodies cs ls env s
default_bodies (t.more_cases t.no_expr xs cs) ls env s = refl

find_default : (v : Value) (cs all : t.Tree t.cases) (ls : List (List ℕ)) (env : Env) (s : Store) → tested cs ≡ None → default_on all ls env s ≡ find_case v cs all ls env s
find_default v t.no_cases all ls env s h = refl
find_default v (t.more_cases t.no_expr xs cs) all ls env s h = find_default v cs all ls env s h
find_default v (t.more_cases (t.some_expr e) xs cs) all ls env s h = cc

-- where no clause is left that has an expression, the `default` counts
pub find_none : (v : Value) (cs all from : t.Tree t.cases) (ls : List (List ℕ)) (env : Env) (s : Store) → tested cs ≡ None → from ≡ from_default all → bodies from ls env s ≡ find_case v cs all ls env s
find_none v cs all from ls env s h e = ap (λ k. bodies k ls env s) e ∙ default_bodies all ls env s ∙ find_default v cs all ls env s h

abbrev Clause : Type 0
Clause = t.Tree t.expr × t.Tree t.cases × t.Tree t.cases

pub find_some : (v : Value) (cs all : t.Tree t.cases) (e : t.Tree t.expr) (here rest : t.Tree t.cases) (ls : List (List ℕ)) (env : Env) (s : Store) → ◌≡◌ {A = Option Clause} (Some (e, here, rest)) (tested cs) → with_value e env s (case_test v here rest all ls env) ≡ find_case v cs all ls env s
find_some v t.no_cases all e here rest ls env s h = cc
find_some v (t.more_cases t.no_expr xs cs) all e here rest ls env s h = find_some v cs all e here rest ls env s h
find_some v (t.more_cases (t.some_expr d) xs cs) all e here rest ls env s h =
    ap (λ (p : Clause). with_value p.0 env s (case_test v p.1 p.2 all ls env)) (same_Some {A = Clause} (e, here, rest) (d, t.more_cases (t.some_expr d) xs cs, cs) h)
