-- Rows that are loaded in order.
use Rattle.std.proofs.Common.{◌≡◌, ℕ, List, [], ◌∷◌, ◌++◌, refl, sym, ap, ◌∙◌, Global}
use Rattle.std.specs.Prelude.{map}
use Rattle.std.specs.declared.rc.Rc.{Rc}
use Rattle.es3_tree.specs.Tree as t
use Rattle.es3_tree.specs.View as v
use Rattle.es3_tree.specs.declared.Name.{Name}
use Rattle.es3_tree.specs.declared.Expr.{Expr}
use Rattle.es3_tree.specs.declared.Stmt.{Stmt}
use Rattle.es3_tree.specs.declared.VarItem.{VarItem}
use Rattle.es3_tree.specs.declared.Case.{Case}
use Rattle.es3_moves.specs.Code.{plain_expr, plain_stmt, plain_exprs, plain_fields, plain_stmts, plain_vars, plain_cases, maybe_expr}
use Rattle.es3_moves.specs.declared.code.ExprCode.{ExprCode}
use Rattle.es3_moves.specs.declared.code.FieldCode.{FieldCode}
use Rattle.es3_moves.specs.declared.code.StmtCode.{StmtCode}
use Rattle.es3_moves.specs.declared.code.VarCode.{VarCode}
use Rattle.es3_moves.specs.declared.code.CaseCode.{CaseCode}

-- what was loaded, and then what is left of a list
abbrev pub joined : {A B P : Type 0} → (B → P) → (A → P) → List B → List A → List P
joined g f ys xs = map g ys ++ map f xs

-- rows of trees
abbrev pub exprs_of : List (t.Tree t.expr) → t.Tree t.exprs
exprs_of [] = t.no_exprs
exprs_of (x ∷ xs) = t.more_exprs x (exprs_of xs)

abbrev pub Field : Type 0
Field = List ℕ × t.Tree t.expr

abbrev pub fields_of : List Field → t.Tree t.fields
fields_of [] = t.no_fields
fields_of (x ∷ xs) = t.more_fields x.0 x.1 (fields_of xs)

abbrev pub stmts_of : List (t.Tree t.stmt) → t.Tree t.stmts
stmts_of [] = t.no_stmts
stmts_of (x ∷ xs) = t.more_stmts x (stmts_of xs)

abbrev pub Item : Type 0
Item = List ℕ × t.Tree t.maybe_expr

abbrev pub items_of : List Item → t.Tree t.items
items_of [] = t.no_items
items_of (x ∷ xs) = t.more_items x.0 x.1 (items_of xs)

abbrev pub Clause : Type 0
Clause = t.Tree t.maybe_expr × t.Tree t.stmts

abbrev pub cases_of : List Clause → t.Tree t.cases
cases_of [] = t.no_cases
cases_of (x ∷ xs) = t.more_cases x.0 x.1 (cases_of xs)

-- what each kind of element stands for
abbrev pub code_tree : Rc ExprCode Global → t.Tree t.expr
code_tree c = plain_expr c.value

abbrev pub stmt_tree : Rc StmtCode Global → t.Tree t.stmt
stmt_tree c = plain_stmt c.value

abbrev pub item_tree : VarItem → Item
item_tree x = (x.name.text, v.of_maybe_expr x.value)

abbrev pub var_tree : VarCode → Item
var_tree x = (x.name.value, maybe_expr x.value)

abbrev pub property_tree : Name × Expr → Field
property_tree x = (x.0.text, v.expr x.1)

abbrev pub field_tree : FieldCode → Field
field_tree x = (x.key.value, plain_expr x.value.value)

abbrev pub clause_tree : Case → Clause
clause_tree x = (v.of_maybe_expr x.test, v.of_stmts x.body.items)

abbrev pub case_tree : CaseCode → Clause
case_tree x = (maybe_expr x.test, plain_stmts x.body.value.items)

-- a row is the row of what its elements stand for
pub exprs_left : (xs : List Expr) → exprs_of (map v.expr xs) ≡ v.of_exprs xs
exprs_left [] = refl
exprs_left (x ∷ xs) = ap (t.more_exprs (v.expr x)) (exprs_left xs)

pub exprs_right : (xs : List (Rc ExprCode Global)) → exprs_of (map code_tree xs) ≡ plain_exprs xs
exprs_right [] = refl
exprs_right (x ∷ xs) = ap (t.more_exprs (plain_expr x.value)) (exprs_right xs)

pub stmts_left : (xs : List Stmt) → stmts_of (map v.stmt xs) ≡ v.of_stmts xs
stmts_left [] = refl
stmts_left (x ∷ xs) = ap (t.more_stmts (v.stmt x)) (stmts_left xs)

pub stmts_right : (xs : List (Rc StmtCode Global)) → stmts_of (map stmt_tree xs) ≡ plain_stmts xs
stmts_right [] = refl
stmts_right (x ∷ xs) = ap (t.more_stmts (plain_stmt x.value)) (stmts_right xs)

pub items_left : (xs : List VarItem) → items_of (map item_tree xs) ≡ v.of_items xs
items_left [] = refl
items_left (x ∷ xs) = ap (t.more_items x.name.text (v.of_maybe_expr x.value)) (items_left xs)

pub items_right : (xs : List VarCode) → items_of (map var_tree xs) ≡ plain_vars xs
items_right [] = refl
items_right (x ∷ xs) = ap (t.more_items x.name.value (maybe_expr x.value)) (items_right xs)

pub fields_left : (xs : List (Name × Expr)) → fields_of (map property_tree xs) ≡ v.of_fields xs
fields_left [] = refl
fields_left (x ∷ xs) = ap (t.more_fields x.0.text (v.expr x.1)) (fields_left xs)

pub fields_right : (xs : List FieldCode) → fields_of (map field_tree xs) ≡ plain_fields xs
fields_right [] = refl
fields_right (x ∷ xs) = ap (t.more_fields x.key.value (plain_expr x.value.value)) (fields_right xs)

pub cases_left : (xs : List Case) → cases_of (map clause_tree xs) ≡ v.of_cases xs
cases_left [] = refl
cases_left (x ∷ xs) = ap (t.more_cases (v.of_maybe_expr x.test) (v.of_stmts x.body.items)) (cases_left xs)

pub cases_right : (xs : List CaseCode) → cases_of (map case_tree xs) ≡ plain_cases xs
cases_right [] = refl
cases_right (x ∷ xs) = ap (t.more_cases (maybe_expr x.test) (plain_stmts x.body.value.items)) (cases_right xs)

-- all is loaded
pub exprs_all : (xs : List Expr) (ys : List (Rc ExprCode Global)) → map code_tree ys ≡ map v.expr xs → plain_exprs ys ≡ v.of_exprs xs
exprs_all xs ys e = sym (exprs_right ys) ∙ ap exprs_of e ∙ exprs_left xs

pub stmts_all : (xs : List Stmt) (ys : List (Rc StmtCode Global)) → map stmt_tree ys ≡ map v.stmt xs → plain_stmts ys ≡ v.of_stmts xs
stmts_all xs ys e = sym (stmts_right ys) ∙ ap stmts_of e ∙ stmts_left xs

pub items_all : (xs : List VarItem) (ys : List VarCode) → map var_tree ys ≡ map item_tree xs → plain_vars ys ≡ v.of_items xs
items_all xs ys e = sym (items_right ys) ∙ ap items_of e ∙ items_left xs

pub fields_all : (xs : List (Name × Expr)) (ys : List FieldCode) → map field_tree ys ≡ map property_tree xs → plain_fields ys ≡ v.of_fields xs
fields_all xs ys e = sym (fields_right ys) ∙ ap fields_of e ∙ fields_left xs

pub cases_all : (xs : List Case) (ys : List CaseCode) → map case_tree ys ≡ map clause_tree xs → plain_cases ys ≡ v.of_cases xs
cases_all xs ys e = sym (cases_right ys) ∙ ap cases_of e ∙ cases_left xs
