-- A program without a first fault has a module.
use Rattle.std.proofs.Common.{◌≡◌, ℕ, List, [], ◌++◌, Option, Some, None, sym, ap, ◌∙◌}
use Rattle.es3_tree.specs.Tree as t
use Rattle.es3_tree.specs.Placed.{Placed}
use Rattle.cajita_tree.specs.Tree as c
use Rattle.cajita_names.specs.Declarations.{Declaration}
use Rattle.cajita_names.specs.Scope.{in_module}
use Rattle.scope_rules.specs.Resolve.{body_of, module_of}
use Rattle.cajita_rules.specs.Faults.{Fault, redeclared, faults_in, module_scope, all_faults, faults, first}
use Rattle.cajita_rules.specs.Found.{first_in}
use Rattle.cajita_rules.proofs.Order.{none_at_all}
use Rattle.scope_rules.proofs.Given.{There, no_front, no_back, body_given, module_given}

none-there : {C A : Type 0} (o : Option A) → There o → o ≡ None → C
none-there o g e = let n = sym e ∙ g.1 in absurd cc

-- a body without a first fault is resolved
pub never : {C : Type 0} (ds : List Declaration) (names : List (List ℕ)) (one two : Placed t.stmts) (labels : List Fault) (found : Option Fault) (body : Option (c.Tree c.body))
    → found ≡ first_in ((redeclared [] ds ++ faults_in (in_module ds names) t.stmts one) ++ labels) → found ≡ None → one ≡ two → body ≡ body_of two → body ≡ None → C
never ds names one two labels found body is none same made missing =
    let all = none_at_all ((redeclared [] ds ++ faults_in (in_module ds names) t.stmts one) ++ labels) (sym is ∙ none) in
    let clean = no_back (redeclared [] ds) (faults_in (in_module ds names) t.stmts one) (no_front _ labels all) in
    none-there (body_of one) (body_given (in_module ds names) one clean) (ap body_of same ∙ sym made ∙ missing)

-- the law
pub has_module : (grants : List (List ℕ)) (body : Placed t.stmts) → faults grants body ≡ [] → (m : c.Tree c.program) × (module_of grants body ≡ Some m)
has_module grants body e =
    let all = none_at_all (all_faults grants body) (ap first e) in
    module_given grants (module_scope grants body) body (no_back _ (faults_in (module_scope grants body) t.stmts body) (no_front _ _ all))
