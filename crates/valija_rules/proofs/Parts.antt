-- The faults of forms, by their parts, and of the declarations of a body, one after the other.
use Rattle.std.proofs.Common.{◌≡◌, ℕ, ◌+◌, ◌<◌, List, [], ◌∷◌, ◌++◌, Bool, true, false, ◌&&◌, ◌||◌, Option, map, length, get_or, drop, refl, sym, ap, ◌∙◌, ◌⊎◌, inl, inr}
use Rattle.std.specs.List.{list_any}
use Rattle.std.proofs.lemmas.List.{at_drop_more}
use Rattle.std.specs.Global.{Vec, Box}
use Rattle.es3_tree.specs.declared.Expr.{Expr}
use Rattle.es3_tree.specs.declared.Stmt.{Stmt}
use Rattle.es3_tree.specs.declared.Case.{Case}
use Rattle.es3_tree.specs.declared.First.{First}
use Rattle.es3_tree.specs.declared.Expr.TheVariants as e
use Rattle.es3_tree.specs.declared.Stmt.TheVariants as s
use Rattle.es3_tree.specs.Tree as t
use Rattle.es3_tree.specs.PlacedView as v
use Rattle.es3_tree.proofs.PlacedRows.{placed_call, placed_new, placed_for, placed_switch}
use Rattle.caja_units.specs.Units.{same_units}
use Rattle.cajita_names.specs.Declarations.{Declaration}
use Rattle.cajita_names.specs.Scope.{Scope, is_parameter, declares_parameter}
use Rattle.cajita_rules.specs.Faults.{Fault, word_fault, form_fault}
use Rattle.valija_rules.specs.Faults.{clashes, redeclared, faults_in}
use Rattle.cajita_names.specs.Views.{declaration_of}
use Rattle.cajita_names.specs.declared.declarations.Declaration.{Declaration as DeclarationPart}
use Rattle.cajita_rules.specs.Found.{first_in, earlier_of}
use Rattle.cajita_rules.proofs.Order.{one-more}

pub faults_of_call : (around : Scope) {x : Expr} (b : Box Expr) (y : Vec Expr) → (x ≡ e.Call b y) ⊎ (x ≡ e.New b y)
    → faults_in around t.expr (v.expr x) ≡ faults_in around t.expr (v.expr b.value) ++ faults_in around t.exprs (v.of_exprs y.items)
unfolding faults_in
faults_of_call around b y (inl h) = ap (λ x. faults_in around t.expr (v.expr x)) h ∙ ap (faults_in around t.expr) (placed_call b y)
faults_of_call around b y (inr h) = ap (λ x. faults_in around t.expr (v.expr x)) h ∙ ap (faults_in around t.expr) (placed_new b y)

pub faults_of_for : (around : Scope) {x : Stmt} (i : First) (a b : Option Expr) (z : Box Stmt) → x ≡ s.For i a b z
    → faults_in around t.stmt (v.stmt x)
    ≡ ((faults_in around t.first (v.first i) ++ faults_in around t.maybe_expr (v.of_maybe_expr a)) ++ faults_in around t.maybe_expr (v.of_maybe_expr b)) ++ faults_in around t.stmt (v.stmt z.value)
unfolding faults_in
faults_of_for around i a b z h = ap (λ x. faults_in around t.stmt (v.stmt x)) h ∙ ap (faults_in around t.stmt) (placed_for i a b z)

pub faults_of_with : (around : Scope) {x : Stmt} (y : Expr) (z : Box Stmt) (at : ℕ) → x ≡ s.With y z at
    → faults_in around t.stmt (v.stmt x) ≡ (form_fault 2 at ++ faults_in around t.expr (v.expr y)) ++ faults_in around t.stmt (v.stmt z.value)
unfolding faults_in
faults_of_with around y z at h = ap (λ x. faults_in around t.stmt (v.stmt x)) h

pub faults_of_switch : (around : Scope) {x : Stmt} (y : Expr) (z : Vec Case) → x ≡ s.Switch y z
    → faults_in around t.stmt (v.stmt x) ≡ faults_in around t.expr (v.expr y) ++ faults_in around t.cases (v.of_cases z.items)
unfolding faults_in
faults_of_switch around y z h = ap (λ x. faults_in around t.stmt (v.stmt x)) h ∙ ap (faults_in around t.stmt) (placed_switch y z)

alike : (s q a b : Bool) → a ≡ b → ((s && q) || a) ≡ ((q && s) || b)
alike true true a b h = refl
alike true false a b h = h
alike false true a b h = h
alike false false a b h = h

other : (s a : Bool) → a ≡ false → ((s && false) || a) ≡ false
other true a h = h
other false a h = h

-- which declarations a declaration clashes with
pub clash_any : (d : Declaration) (ds : List Declaration) → list_any (clashes d) ds ≡ (is_parameter d.role && declares_parameter ds d.word.text)
clash_any d ds = by (is_parameter d.role) ds
  where
    by : (p : Bool) (ds : List Declaration) → list_any (λ e. same_units d.word.text e.word.text && (p && is_parameter e.role)) ds ≡ (p && declares_parameter ds d.word.text)
    by true [] = refl
    by false [] = refl
    by true (e ∷ es) = alike (same_units d.word.text e.word.text) (is_parameter e.role) _ _ (by true es)
    by false (e ∷ es) = other (same_units d.word.text e.word.text) _ (by false es)

-- a declaration, and those behind it
redeclared_at : (before : List Declaration) (ds : List DeclarationPart) (i : ℕ) (d : DeclarationPart) → i < length ds → d ≡ get_or ds i d
    → redeclared before (map declaration_of (drop i ds))
    ≡ word_fault 6 (declaration_of d).word (list_any (clashes (declaration_of d)) before) ++ redeclared (before ++ declaration_of d ∷ []) (map declaration_of (drop (i + 1) ds))
redeclared_at before ds i d h is =
    at_drop_more (λ l. redeclared before (map declaration_of l)) ds i d h ∙ ap (λ x. redeclared before (declaration_of x ∷ map declaration_of (drop (i + 1) ds))) (sym is)

-- with one declaration more
pub redeclared-turn : (before behind : List Declaration) (ds : List DeclarationPart) (i : ℕ) (d : DeclarationPart) (again : Bool) (found here more : Option Fault) → i < length ds → d ≡ get_or ds i d
    → again ≡ list_any (clashes (declaration_of d)) before → here ≡ first_in (word_fault 6 (declaration_of d).word again) → more ≡ earlier_of found here → behind ≡ before ++ declaration_of d ∷ []
    → earlier_of more (first_in (redeclared behind (map declaration_of (drop (i + 1) ds)))) ≡ earlier_of found (first_in (redeclared before (map declaration_of (drop i ds))))
redeclared-turn before behind ds i d again found here more h is told at now last =
    ap (λ b. earlier_of more (first_in (redeclared b (map declaration_of (drop (i + 1) ds))))) last
    ∙ one-more found here more (word_fault 6 (declaration_of d).word (list_any (clashes (declaration_of d)) before)) _ _ (at ∙ ap (λ b. first_in (word_fault 6 (declaration_of d).word b)) told) now
    (redeclared_at before ds i d h is)
