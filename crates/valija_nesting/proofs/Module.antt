-- A lowered program behind the prelude, as a module: the prelude is one `var`, and stands beside the program.
use Rattle.std.proofs.Common.{◌≡◌, ℕ, ◌+◌, ◌*◌, ◌≤◌, true, false, List, [], Option, Some, None, refl, sym, ap, subst, arith}
use Rattle.std.specs.Prelude.{max, IfSome}
use Rattle.es3_tree.specs.Tree as t
use Rattle.es3_tree.specs.Placed as p
use Rattle.es3_tree.specs.Placed.{Placed}
use Rattle.es3_tree.specs.Measure.{nest}
use Rattle.es3_grammar.specs.Plain.{plain}
use Rattle.es3_grammar.specs.Spots.{spots}
use Rattle.es3_grammar.specs.Within.{Reading, program, broken, refused, too_deep, read_within}
use Rattle.es3_grammar.specs.Answers.{answer_of}
use Rattle.es3_grammar.specs.Answers as answers
use Rattle.es3_grammar.proofs.Limits.{within_sound}
use Rattle.cajita_tree.specs.Tree as c
use Rattle.cajita_names.specs.Once.{vars_of}
use Rattle.cajita_rules.specs.Faults.{module_scope}
use Rattle.cajita_forms.specs.Options.{one, both}
use Rattle.cajita_rewrite.specs.Rewrite.{program_of}
use Rattle.scope_rules.specs.Resolve.{resolved, declared_functions, imports_of, module_of}
use Rattle.cajoled_nesting.specs.Nesting.{deep, depth}
use Rattle.cajoled_nesting.proofs.Deep.{deep_is}
use Rattle.cajoled_nesting.proofs.Bound.{imported_few, within}
use Rattle.cajoled_nesting.proofs.Source.{module_nests}
use Rattle.valija_lower.specs.Module.{lowered_source}
use Rattle.valija_prelude.specs.Read.{prelude_statements}
use Rattle.valija_prelude.proofs.Accepted.{prelude_is_accepted}
use Rattle.valija_accepted.proofs.Prelude.{the_prelude}
use Rattle.valija_nesting.proofs.Parts.{Most, nothing, form, Nests, deeper}
use Rattle.valija_nesting.proofs.StatementForms.{more_stmts_nests}
use Rattle.valija_nesting.proofs.Bodies.{HasNone, marks_within, no_functions, lowered_body, body_declares}
use Rattle.valija_nesting.proofs.Functions.{body_nests}
use Rattle.valija_nesting.proofs.Program.{part}

-- ---- the prelude was read within 128

read_so : (end : ℕ) (r : Reading) (q : Placed t.program) → answer_of end r ≡ answers.read q → r ≡ program q
read_so end (program x) q e = cc
read_so end broken q e = absurd cc
read_so end (refused u) q e = absurd cc
read_so end (too_deep u) q e = absurd cc

prelude_within : nest t.stmts (plain t.stmts prelude_statements) ≤ 128
prelude_within =
    let a = prelude_is_accepted in
    let w = within_sound 128 (p.script prelude_statements) (spots a.spelled_by) (read_so _ (read_within 128 (spots a.spelled_by)) (p.script prelude_statements) a.read) in
    w.shallow

-- ---- one `var` before statements

abbrev alone : Placed t.items → Placed t.stmts
alone is = p.more_stmts (p.var is) p.no_stmts

-- its module, and how little its variables nest where it does
alone_found : (is : Placed t.items) (xs : c.Tree c.items) → resolved t.items is ≡ Some xs
    → module_of [] (alone is) ≡ Some (c.a_module (imports_of [] (alone is)) (c.a_body c.no_funcs (vars_of (alone is)) (c.more_stmts (c.var xs) c.no_stmts)))
unfolding resolved
alone_found is xs e = ap (λ o. one (c.a_module (imports_of [] (alone is))) (both (λ fs ss. c.a_body fs (vars_of (alone is)) ss) (Some c.no_funcs) (both c.more_stmts (one c.var o) (Some c.no_stmts)))) e

variables_within : (is : Placed t.items) (o : Option (c.Tree c.items)) → resolved t.items is ≡ o → nest t.stmts (plain t.stmts (alone is)) ≤ 128 → Most c.stmt 516 (one c.var o)
unfolding depth deep
variables_within is None e few = nothing c.stmt 516
variables_within is (Some xs) e few = form (c.var xs) (λ m. let a = module_nests [] (alone is) _ (alone_found is xs e) in let b = within false c.items xs in let d = b.holds in omega (arith, a, d, few))

variables_nest : (is : Placed t.items) → nest t.stmts (plain t.stmts (alone is)) ≤ 128 → Nests t.stmt 516 (p.var is)
unfolding resolved
variables_nest is few = record { there = variables_within is (resolved t.items is) refl few }

-- ---- the module

program_within : (n : ℕ) (xs : List (List ℕ)) (fs : c.Tree c.funcs) (vs : List (List ℕ)) (ss : c.Tree c.stmts) → deep false c.funcs fs ≤ 0 → deep true c.stmts ss ≤ n → deep false c.program (c.a_module xs (c.a_body fs vs ss)) ≤ 4 + max 4 n
unfolding deep
program_within n xs fs vs ss h i = let a = imported_few xs in let b = marks_within fs in omega (arith, a, b, h, i)

of_body : (n : ℕ) (xs : List (List ℕ)) (vs : List (List ℕ)) (o : Option (c.Tree c.funcs)) (r : Option (c.Tree c.stmts)) → Most c.funcs 0 o → Most c.stmts n r
    → IfSome (one (c.a_module xs) (both (λ fs ss. c.a_body fs vs ss) o r)) (λ m. deep false c.program m ≤ 4 + max 4 n)
of_body n xs vs None r h i = tt
of_body n xs vs (Some fs) None h i = tt
of_body n xs vs (Some fs) (Some ss) h i = program_within n xs fs vs ss (h.most false) (i.most true)

module_within : (n : ℕ) (grants : List (List ℕ)) (body : Placed t.stmts) (m : c.Tree c.program) → HasNone body → Nests t.stmts n body → module_of grants body ≡ Some m → nest t.program (program_of m) ≤ 4 + max 4 n
module_within n grants body m none h is =
    let e = deep_is false c.program 0 m in
    let few = subst (λ o. IfSome o (λ q. deep false c.program q ≤ 4 + max 4 n)) is (of_body n (imports_of grants body) (vars_of body) (declared_functions body) (resolved t.stmts body) (no_functions body none) h.there) in
    subst (λ k. k ≤ 4 + max 4 n) (sym e) few

-- behind a prelude that is one `var`
behind_prelude : (grants : List (List ℕ)) (body : Placed t.stmts) (m : c.Tree c.program) (prelude : Placed t.stmts) (is : Placed t.items) → prelude ≡ alone is → nest t.stmts (plain t.stmts prelude) ≤ 128
    → module_of grants (lowered_source prelude grants body) ≡ Some m → nest t.program (program_of m) ≤ max 520 (6 * nest t.stmts (plain t.stmts body) + 12)
unfolding declared_functions
behind_prelude grants body m prelude is e few found =
    let L = lowered_body (module_scope grants body) body in
    let N = nest t.stmts (plain t.stmts body) in
    let l = body_nests (module_scope grants body) body (part t.stmts body) in
    let v = variables_nest is (subst (λ z. nest t.stmts (plain t.stmts z) ≤ 128) e few) in
    let all : Nests t.stmts (max 516 (6 * N + 8)) (p.more_stmts (p.var is) L) = more_stmts_nests (deeper v (omega arith)) (deeper l (omega arith)) in
    let r = module_within (max 516 (6 * N + 8)) grants (p.more_stmts (p.var is) L) m (body_declares (module_scope grants body) body) all (subst (λ z. module_of grants (lowered_source z grants body) ≡ Some m) e found) in
    omega (arith, r)

pub lowered_within : (grants : List (List ℕ)) (body : Placed t.stmts) (m : c.Tree c.program) → module_of grants (lowered_source prelude_statements grants body) ≡ Some m
    → nest t.program (program_of m) ≤ max 520 (6 * nest t.stmts (plain t.stmts body) + 12)
lowered_within grants body m found =
    let h = the_prelude in
    behind_prelude grants body m prelude_statements (p.more_items h.named (p.some_expr (p.call (p.function (p.fun None [] h.body h.at)) p.no_exprs)) p.no_items) h.spelled prelude_within found

pub lowered_nests : (grants : List (List ℕ)) (body : Placed t.stmts) (m : c.Tree c.program) → module_of grants (lowered_source prelude_statements grants body) ≡ Some m
    → nest t.stmts (plain t.stmts body) ≤ 128 → nest t.program (program_of m) ≤ 1024
lowered_nests grants body m found few = let h = lowered_within grants body m found in omega (arith, h, few)
