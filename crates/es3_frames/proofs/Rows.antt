-- Lists of the program's trees: as they are seen part by part, and with one more part at the end.
use Rattle.std.proofs.Common.{◌≡◌, max, Bool, true, false, ◌||◌, not, List, [], ◌∷◌, ◌++◌, map, Option, Some, None, refl, ap, sym, ◌∙◌, arith}
use Rattle.std.specs.Prelude.{is_some}
use Rattle.es3_tree.specs.Tree as t
use Rattle.es3_tree.specs.Placed as tree
use Rattle.es3_tree.specs.PlacedView.{word, expr, stmt, of_exprs, of_stmts, of_fields, of_items, of_cases, of_maybe_expr}
use Rattle.es3_tree.specs.declared.Name.{Name}
use Rattle.es3_tree.specs.declared.Expr.{Expr}
use Rattle.es3_tree.specs.declared.Stmt.{Stmt}
use Rattle.es3_tree.specs.declared.VarItem.{VarItem}
use Rattle.es3_tree.specs.declared.Case.{Case}
use Rattle.es3_grammar.specs.Frames.{exprs_of, stmts_of, fields_of, items_of, cases_of}
use Rattle.es3_grammar.specs.Grammar.{has_default}
use Rattle.es3_grammar.specs.Plain.{deep}
use Rattle.es3_frames.specs.Lists.{field_of, item_of, clause_of}

-- ---- a list, and the list of what its parts say

pub exprs_mapped : (xs : List Expr) → of_exprs xs ≡ exprs_of (map expr xs)
exprs_mapped [] = refl
exprs_mapped (x ∷ xs) = ap (tree.more_exprs (expr x)) (exprs_mapped xs)

pub stmts_mapped : (xs : List Stmt) → of_stmts xs ≡ stmts_of (map stmt xs)
stmts_mapped [] = refl
stmts_mapped (x ∷ xs) = ap (tree.more_stmts (stmt x)) (stmts_mapped xs)

pub fields_mapped : (xs : List (Name × Expr)) → of_fields xs ≡ fields_of (map field_of xs)
fields_mapped [] = refl
fields_mapped (x ∷ xs) = ap (tree.more_fields (word x.0) (expr x.1)) (fields_mapped xs)

pub items_mapped : (xs : List VarItem) → of_items xs ≡ items_of (map item_of xs)
items_mapped [] = refl
items_mapped (x ∷ xs) = ap (tree.more_items (word x.name) (of_maybe_expr x.value)) (items_mapped xs)

pub cases_mapped : (xs : List Case) → of_cases xs ≡ cases_of (map clause_of xs)
cases_mapped [] = refl
cases_mapped (x ∷ xs) =
    ap (λ ss. tree.more_cases (of_maybe_expr x.test) ss (of_cases xs)) (stmts_mapped x.body.items)
    ∙ ap (tree.more_cases (of_maybe_expr x.test) (stmts_of (map stmt x.body.items))) (cases_mapped xs)

-- ---- one more at the end: how deep the list is then

pub exprs_deeper : (xs : List Expr) (x : Expr) → deep t.exprs (of_exprs (xs ++ x ∷ [])) ≡ max (deep t.exprs (of_exprs xs)) (deep t.expr (expr x))
exprs_deeper [] x = omega arith
exprs_deeper (y ∷ xs) x = omega (arith, exprs_deeper xs x)

pub stmts_deeper : (xs : List Stmt) (x : Stmt) → deep t.stmts (of_stmts (xs ++ x ∷ [])) ≡ max (deep t.stmts (of_stmts xs)) (deep t.stmt (stmt x))
stmts_deeper [] x = omega arith
stmts_deeper (y ∷ xs) x = omega (arith, stmts_deeper xs x)

pub fields_deeper : (xs : List (Name × Expr)) (x : Name × Expr) → deep t.fields (of_fields (xs ++ x ∷ [])) ≡ max (deep t.fields (of_fields xs)) (deep t.expr (expr x.1))
fields_deeper [] x = omega arith
fields_deeper (y ∷ xs) x = omega (arith, fields_deeper xs x)

pub items_deeper : (xs : List VarItem) (x : VarItem) → deep t.items (of_items (xs ++ x ∷ [])) ≡ max (deep t.items (of_items xs)) (deep t.maybe_expr (of_maybe_expr x.value))
items_deeper [] x = omega arith
items_deeper (y ∷ xs) x = omega (arith, items_deeper xs x)

pub cases_deeper : (xs : List Case) (x : Case) → deep t.cases (of_cases (xs ++ x ∷ [])) ≡ max (max (deep t.cases (of_cases xs)) (deep t.maybe_expr (of_maybe_expr x.test))) (deep t.stmts (of_stmts x.body.items))
cases_deeper [] x = omega arith
cases_deeper (y ∷ xs) x = omega (arith, cases_deeper xs x)

-- ---- and whether one of the clauses is `default`

default_more : (m : Option Expr) (ss : tree.Placed t.stmts) (cs : tree.Placed t.cases) → has_default (tree.more_cases (of_maybe_expr m) ss cs) ≡ (not (is_some m) || has_default cs)
default_more None ss cs = refl
default_more (Some x) ss cs = refl

or_false : (a : Bool) → (a || false) ≡ a
or_false true = refl
or_false false = refl

or_assoc : (a b c : Bool) → (a || (b || c)) ≡ ((a || b) || c)
or_assoc true b c = refl
or_assoc false b c = refl

default_last : (xs : List Case) (x : Case) → has_default (of_cases (xs ++ x ∷ [])) ≡ (has_default (of_cases xs) || not (is_some x.test))
default_last [] x = default_more x.test (of_stmts x.body.items) tree.no_cases ∙ or_false (not (is_some x.test))
default_last (y ∷ xs) x =
    default_more y.test (of_stmts y.body.items) (of_cases (xs ++ x ∷ []))
    ∙ ap (λ b. not (is_some y.test) || b) (default_last xs x)
    ∙ or_assoc (not (is_some y.test)) (has_default (of_cases xs)) (not (is_some x.test))
    ∙ ap (λ b. b || not (is_some x.test)) (sym (default_more y.test (of_stmts y.body.items) (of_cases xs)))

double_not : (a b : Bool) → a ≡ not b → not a ≡ b
double_not a true e = ap not e
double_not a false e = ap not e

pub default_known : (xs : List Case) (x : Case) (ys : List Case) (a b c : Bool) → a ≡ has_default (of_cases xs) → is_some x.test ≡ not b → ys ≡ xs ++ x ∷ [] → c ≡ (a || b) → c ≡ has_default (of_cases ys)
default_known xs x ys a b c p q r e =
    e ∙ ap (λ z. z || b) p ∙ ap (λ z. has_default (of_cases xs) || z) (sym (double_not (is_some x.test) b q))
    ∙ sym (default_last xs x) ∙ ap (λ zs. has_default (of_cases zs)) (sym r)
