-- What the rest of a list declares, one element on.
use Rattle.std.proofs.Common.{◌≡◌, ℕ, ◌+◌, ◌<◌, true, false, Option, List, [], ◌∷◌, ◌++◌, length, get_or, drop, cond, refl, sym, ap, ◌∙◌, append_assoc, Global}
use Rattle.std.specs.Global.{Vec}
use Rattle.std.specs.declared.rc.Rc.{Rc}
use Rattle.std.proofs.lemmas.List.{at_drop_more, append-nil}
use Rattle.es3_tree.specs.Tree as t
use Rattle.es3_language.specs.Arguments.{is_arguments}
use Rattle.es3_language.specs.Hoisting.{vars_in, functions_of, own_vars}
use Rattle.es3_moves.specs.Code.{names_of, plain_func, plain_stmt, plain_stmts, plain_vars, plain_cases, maybe_catch, maybe_finally}
use Rattle.es3_moves.specs.Texts.{funcs_of}
use Rattle.es3_moves.specs.declared.code.ExprCode.{ExprCode}
use Rattle.es3_moves.specs.declared.code.FuncCode.{FuncCode}
use Rattle.es3_moves.specs.declared.code.StmtCode.{StmtCode}
use Rattle.es3_moves.specs.declared.code.StmtCode.TheVariants as s
use Rattle.es3_moves.specs.declared.code.VarCode.{VarCode}
use Rattle.es3_moves.specs.declared.code.CaseCode.{CaseCode}
use Rattle.es3_moves.specs.declared.code.CatchCode.{CatchCode}
use Rattle.es3_moves.specs.declared.code.FinallyCode.{FinallyCode}
use Rattle.es3_moves.proofs.Rows.{view_declare, view_switch, view_try}
use Rattle.es3_hoisting.specs.Functions.{declared_function}

abbrev Name : Type 0
Name = Rc (List ℕ) Global

-- `declared` says what a list declares, of which its first element declares `first`
one_on : {X Y : Type 0} (declared : List X → List Y) (first : X → List Y) (splits : (x : X) (xs : List X) → declared (x ∷ xs) ≡ first x ++ declared xs) (xs : List X) (i : ℕ) (x : X) (done done' all : List Y) → i < length xs → x ≡ get_or xs i x → done' ≡ done ++ first x → done ++ declared (drop i xs) ≡ all → done' ++ declared (drop (i + 1) xs) ≡ all
one_on declared first splits xs i x done done' all h e g inv =
    let rest = declared (drop (i + 1) xs) in
    ap (λ l. l ++ rest) g
    ∙ append_assoc done (first x) rest
    ∙ ap (λ l. done ++ l) (sym (at_drop_more declared xs i x h ∙ ap (λ y. declared (y ∷ drop (i + 1) xs)) (sym e) ∙ splits x (drop (i + 1) xs)))
    ∙ inv

pub stmts_more : (xs : List (Rc StmtCode Global)) (i : ℕ) (x : Rc StmtCode Global) (done done' all : List (List ℕ)) → i < length xs → x ≡ get_or xs i x → done' ≡ done ++ vars_in t.stmt (plain_stmt x.value) → done ++ vars_in t.stmts (plain_stmts (drop i xs)) ≡ all → done' ++ vars_in t.stmts (plain_stmts (drop (i + 1) xs)) ≡ all
stmts_more = one_on (λ xs. vars_in t.stmts (plain_stmts xs)) (λ x. vars_in t.stmt (plain_stmt x.value)) (λ x xs. refl)

pub cases_more : (xs : List CaseCode) (i : ℕ) (x : CaseCode) (done done' all : List (List ℕ)) → i < length xs → x ≡ get_or xs i x → done' ≡ done ++ vars_in t.stmts (plain_stmts x.body.value.items) → done ++ vars_in t.cases (plain_cases (drop i xs)) ≡ all → done' ++ vars_in t.cases (plain_cases (drop (i + 1) xs)) ≡ all
cases_more = one_on (λ xs. vars_in t.cases (plain_cases xs)) (λ x. vars_in t.stmts (plain_stmts x.body.value.items)) (λ x xs. refl)

pub items_more : (xs : List VarCode) (i : ℕ) (x : VarCode) (done done' all : List (List ℕ)) → i < length xs → x ≡ get_or xs i x → done' ≡ done ++ x.name.value ∷ [] → done ++ vars_in t.items (plain_vars (drop i xs)) ≡ all → done' ++ vars_in t.items (plain_vars (drop (i + 1) xs)) ≡ all
items_more = one_on (λ xs. vars_in t.items (plain_vars xs)) (λ x. x.name.value ∷ []) (λ x xs. refl)

functions_split : (x : t.Tree t.stmt) (xs : t.Tree t.stmts) → functions_of (t.more_stmts x xs) ≡ declared_function x ++ functions_of xs
functions_split (t.declare f) xs = refl
functions_split x xs = refl

pub functions_more : (xs : List (Rc StmtCode Global)) (i : ℕ) (x : Rc StmtCode Global) (done done' all : List (t.Tree t.func)) → i < length xs → x ≡ get_or xs i x → done' ≡ done ++ declared_function (plain_stmt x.value) → done ++ functions_of (plain_stmts (drop i xs)) ≡ all → done' ++ functions_of (plain_stmts (drop (i + 1) xs)) ≡ all
functions_more = one_on (λ xs. functions_of (plain_stmts xs)) (λ x. declared_function (plain_stmt x.value)) (λ x xs. functions_split (plain_stmt x.value) (plain_stmts xs))

funcs_of-push : (fs : List (Rc FuncCode Global)) (f : Rc FuncCode Global) → funcs_of (fs ++ f ∷ []) ≡ funcs_of fs ++ plain_func f.value ∷ []
funcs_of-push [] f = refl
funcs_of-push (g ∷ fs) f = ap (λ l. plain_func g.value ∷ l) (funcs_of-push fs f)

-- one more function, which a statement declares
pub function_pushed : (fs fs' : List (Rc FuncCode Global)) (f g : Rc FuncCode Global) (x : StmtCode) → x ≡ s.Function f → g.value ≡ f.value → fs' ≡ fs ++ g ∷ [] → funcs_of fs' ≡ funcs_of fs ++ declared_function (plain_stmt x)
function_pushed fs fs' f g x is same pushed =
    ap funcs_of pushed
    ∙ funcs_of-push fs g
    ∙ ap (λ y. funcs_of fs ++ plain_func y ∷ []) same
    ∙ ap (λ l. funcs_of fs ++ l) (sym (ap (λ y. declared_function (plain_stmt y)) is ∙ ap declared_function (view_declare f)))

-- the clauses of a `switch`
pub switch_pushed : (names names' : List (List ℕ)) (e : Rc ExprCode Global) (cs : Rc (Vec CaseCode) Global) (x : StmtCode) (cases : List CaseCode) → x ≡ s.Switch e cs → cases ≡ cs.value.items → names' ≡ names ++ vars_in t.cases (plain_cases cases) → names' ≡ names ++ vars_in t.stmt (plain_stmt x)
switch_pushed names names' e cs x cases is same pushed =
    pushed
    ∙ ap (λ l. names ++ vars_in t.cases (plain_cases l)) same
    ∙ ap (λ l. names ++ l) (sym (ap (λ y. vars_in t.stmt (plain_stmt y)) is ∙ ap (vars_in t.stmt) (view_switch e cs)))

-- what a `try` declares
pub of_try : (xs : Rc (Vec (Rc StmtCode Global)) Global) (h : Option (Rc CatchCode Global)) (f : Option (Rc FinallyCode Global)) → vars_in t.stmt (plain_stmt (s.Try xs h f)) ≡ (vars_in t.stmts (plain_stmts xs.value.items) ++ vars_in t.handler (maybe_catch h)) ++ vars_in t.maybe_block (maybe_finally f)
of_try xs h f = ap (vars_in t.stmt) (view_try xs h f)

abbrev own_name : List ℕ → List (List ℕ)
own_name x = cond (is_arguments x) [] (x ∷ [])

own_split : (x : List ℕ) (xs : List (List ℕ)) → own_vars (x ∷ xs) ≡ own_name x ++ own_vars xs
own_split x xs = elim (is_arguments x) as (λ b. cond b (own_vars xs) (x ∷ own_vars xs) ≡ cond b [] (x ∷ []) ++ own_vars xs) [
  | true ↦ refl
  | false ↦ refl
]

own_on : (xs : List Name) (i : ℕ) (x : Name) (done done' all : List (List ℕ)) → i < length xs → x ≡ get_or xs i x → done' ≡ done ++ own_name x.value → done ++ own_vars (names_of (drop i xs)) ≡ all → done' ++ own_vars (names_of (drop (i + 1) xs)) ≡ all
own_on = one_on (λ xs. own_vars (names_of xs)) (λ x. own_name x.value) (λ x xs. own_split x.value (names_of xs))

-- a name that is kept, and one that is not
pub own_more : (xs : List Name) (i : ℕ) (x : Name) (done done' all : List (List ℕ)) → i < length xs → x ≡ get_or xs i x → is_arguments x.value ≡ false → done' ≡ done ++ x.value ∷ [] → done ++ own_vars (names_of (drop i xs)) ≡ all → done' ++ own_vars (names_of (drop (i + 1) xs)) ≡ all
own_more xs i x done done' all h e is g inv = own_on xs i x done done' all h e (g ∙ ap (λ b. done ++ cond b [] (x.value ∷ [])) (sym is)) inv

pub own_same : (xs : List Name) (i : ℕ) (x : Name) (done all : List (List ℕ)) → i < length xs → x ≡ get_or xs i x → is_arguments x.value ≡ true → done ++ own_vars (names_of (drop i xs)) ≡ all → done ++ own_vars (names_of (drop (i + 1) xs)) ≡ all
own_same xs i x done all h e is inv = own_on xs i x done done all h e (sym (ap (λ b. done ++ cond b [] (x.value ∷ [])) is ∙ append-nil done)) inv
