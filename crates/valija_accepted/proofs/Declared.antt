-- What lowered statements declare: the variables of the source, and nothing else. The functions of a body and the variables of heads with `in` stand at its front.
use Rattle.std.proofs.Common.{◌≡◌, ℕ, ◌+◌, Bool, true, false, List, [], ◌∷◌, ◌++◌, cond, Some, None, refl, sym, ap, ◌∙◌, append-nil, append_assoc}
use Rattle.std.specs.Prelude.{◌||◌}
use Rattle.caja_units.specs.Units.{same_units}
use Rattle.es3_tree.specs.Tree as t
use Rattle.es3_tree.specs.Placed as p
use Rattle.es3_tree.specs.Placed.{Placed, Word}
use Rattle.cajita_names.specs.Rules.{is_among}
use Rattle.cajita_names.specs.Declarations as role
use Rattle.cajita_names.specs.Declarations.{Role, Declaration, declared_as, declarations, body_declarations}
use Rattle.cajita_names.specs.Once.{names_of, is_variable}
use Rattle.cajita_names.specs.Scope.{Scope, in_catch, declares, declares_function}
use Rattle.valija_forms.specs.Numbered.{one, both, three, four}
use Rattle.valija_forms.specs.Forms.{word, temporaries_from, items, declaring, joined, key_now}
use Rattle.valija_parts.specs.Lower.{lowered, written, functions_before, loop_names, body_from}

-- ---- variables of these names

abbrev pub variables : List (List ℕ) → List Declaration
variables [] = []
variables (x ∷ xs) = declared_as role.variable (word x) ∷ variables xs

variables_apart : (xs ys : List (List ℕ)) → variables (xs ++ ys) ≡ variables xs ++ variables ys
variables_apart [] ys = refl
variables_apart (x ∷ xs) ys = ap (λ l. declared_as role.variable (word x) ∷ l) (variables_apart xs ys)

pub variables_declare : (xs : List (List ℕ)) (k : List ℕ) → declares (variables xs) k ≡ is_among xs k
variables_declare [] k = refl
variables_declare (x ∷ xs) k = ap (λ b. same_units k x || b) (variables_declare xs k)

pub no_function : (xs : List (List ℕ)) (k : List ℕ) → declares_function (variables xs) k ≡ false
no_function [] k = refl
no_function (x ∷ xs) k = no_function xs k

-- those among some declarations
abbrev pub vars_in : List Declaration → List Declaration
vars_in ds = variables (names_of is_variable ds)

pub names_apart : (has : Role → Bool) (ds es : List Declaration) → names_of has (ds ++ es) ≡ names_of has ds ++ names_of has es
names_apart has [] es = refl
names_apart has (x ∷ ds) es = by_role (has x.role) (names_apart has ds es)
  where
    by_role : (b : Bool) → names_of has (ds ++ es) ≡ names_of has ds ++ names_of has es → cond b (x.word.text ∷ names_of has (ds ++ es)) (names_of has (ds ++ es)) ≡ cond b (x.word.text ∷ names_of has ds) (names_of has ds) ++ names_of has es
    by_role true e = ap (λ l. x.word.text ∷ l) e
    by_role false e = e

-- those of two parts
beside : {a b : List Declaration} (ds es : List Declaration) → a ≡ vars_in ds → b ≡ vars_in es → a ++ b ≡ vars_in (ds ++ es)
beside {a = a} {b = b} ds es h i =
    ap (λ l. l ++ b) h ∙ ap (λ l. vars_in ds ++ l) i ∙ sym (ap variables (names_apart is_variable ds es) ∙ variables_apart (names_of is_variable ds) (names_of is_variable es))

-- ---- of lowered statements

-- the block of a loop over keys has the statement at its end
last_in_loop : (d ds : List Declaration) → d ≡ ds → ((d ++ []) ++ []) ++ [] ≡ ds
last_in_loop d ds h = append-nil ((d ++ []) ++ []) ∙ append-nil (d ++ []) ∙ append-nil d ∙ h

mutual
  unfolding lowered declarations one both three four

  stmt_vars : (s : Scope) (x : Placed t.stmt) (n : ℕ) → declarations t.stmt (lowered s t.stmt x n).0 ≡ vars_in (declarations t.stmt x)
  stmt_vars s (p.block ss) n = stmts_vars s ss n
  stmt_vars s (p.var is) n = items_vars s is n
  stmt_vars s (p.branch e x m) n =
      let k = (lowered s t.expr e n).1 in
      beside (declarations t.stmt x) (declarations t.maybe_stmt m) (stmt_vars s x k) (side_vars s m (lowered s t.stmt x k).1)
  stmt_vars s (p.while_loop e x) n = stmt_vars s x (lowered s t.expr e n).1
  stmt_vars s (p.do_loop x e) n = stmt_vars s x n
  stmt_vars s (p.for_loop i e f x) n =
      let k = (lowered s t.first i n).1 in
      beside (declarations t.first i) (declarations t.stmt x) (head_vars s i n) (stmt_vars s x (lowered s t.maybe_expr f (lowered s t.maybe_expr e k).1).1)
  stmt_vars s (p.for_in (p.loop_var y) e x) n = last_in_loop _ _ (stmt_vars s x (lowered s t.expr e (written s (p.loop_var y) (key_now n) (n + 3)).1).1)
  stmt_vars s (p.for_in (p.loop_expr y) e x) n = last_in_loop _ _ (stmt_vars s x (lowered s t.expr e (written s (p.loop_expr y) (key_now n) (n + 3)).1).1)
  stmt_vars s (p.with_object e x at) n = stmt_vars s x (lowered s t.expr e n).1
  stmt_vars s (p.switch e cs) n = clauses_vars s cs (lowered s t.expr e n).1
  stmt_vars s (p.label l x) n = stmt_vars s x n
  stmt_vars s (p.try ss h m) n =
      let k = (lowered s t.stmts ss n).1 in
      beside (declarations t.stmts ss ++ declarations t.handler h) (declarations t.maybe_block m)
      (beside (declarations t.stmts ss) (declarations t.handler h) (stmts_vars s ss n) (catch_vars s h k)) (end_vars s m (lowered s t.handler h k).1)
  stmt_vars s (p.declare (p.fun None ps body at)) n = refl
  stmt_vars s (p.declare (p.fun (Some f) ps body at)) n = refl
  stmt_vars s x n = refl

  stmts_vars : (s : Scope) (ss : Placed t.stmts) (n : ℕ) → declarations t.stmts (lowered s t.stmts ss n).0 ≡ vars_in (declarations t.stmts ss)
  stmts_vars s p.no_stmts n = refl
  stmts_vars s (p.more_stmts (p.declare (p.fun None ps body at)) ss) n = stmts_vars s ss n
  stmts_vars s (p.more_stmts (p.declare (p.fun (Some f) ps body at)) ss) n = stmts_vars s ss n
  stmts_vars s (p.more_stmts x ss) n = beside (declarations t.stmt x) (declarations t.stmts ss) (stmt_vars s x n) (stmts_vars s ss (lowered s t.stmt x n).1)

  items_vars : (s : Scope) (is : Placed t.items) (n : ℕ) → declarations t.items (lowered s t.items is n).0 ≡ vars_in (declarations t.items is)
  items_vars s p.no_items n = refl
  items_vars s (p.more_items x m is) n = ap (λ l. declared_as role.variable (word x.text) ∷ l) (items_vars s is (lowered s t.maybe_expr m n).1)

  side_vars : (s : Scope) (m : Placed t.maybe_stmt) (n : ℕ) → declarations t.maybe_stmt (lowered s t.maybe_stmt m n).0 ≡ vars_in (declarations t.maybe_stmt m)
  side_vars s p.no_stmt n = refl
  side_vars s (p.some_stmt x) n = stmt_vars s x n

  end_vars : (s : Scope) (m : Placed t.maybe_block) (n : ℕ) → declarations t.maybe_block (lowered s t.maybe_block m n).0 ≡ vars_in (declarations t.maybe_block m)
  end_vars s p.no_block n = refl
  end_vars s (p.some_block ss) n = stmts_vars s ss n

  head_vars : (s : Scope) (i : Placed t.first) (n : ℕ) → declarations t.first (lowered s t.first i n).0 ≡ vars_in (declarations t.first i)
  head_vars s p.no_first n = refl
  head_vars s (p.first_var is) n = items_vars s is n
  head_vars s (p.first_expr e) n = refl

  clauses_vars : (s : Scope) (cs : Placed t.cases) (n : ℕ) → declarations t.cases (lowered s t.cases cs n).0 ≡ vars_in (declarations t.cases cs)
  clauses_vars s p.no_cases n = refl
  clauses_vars s (p.more_cases m ss cs) n =
      let k = (lowered s t.maybe_expr m n).1 in
      beside (declarations t.stmts ss) (declarations t.cases cs) (stmts_vars s ss k) (clauses_vars s cs (lowered s t.stmts ss k).1)

  catch_vars : (s : Scope) (h : Placed t.handler) (n : ℕ) → declarations t.handler (lowered s t.handler h n).0 ≡ vars_in (declarations t.handler h)
  catch_vars s p.no_handler n = refl
  catch_vars s (p.some_handler x ss) n = stmts_vars (in_catch x.text s) ss n

-- ---- of a lowered body

-- the names of a body's functions, which stand in front of its statements
abbrev pub function_names : Placed t.stmts → List (List ℕ)
function_names p.no_stmts = []
function_names (p.more_stmts (p.declare (p.fun (Some f) ps body at)) ss) = f.text ∷ function_names ss
function_names (p.more_stmts x ss) = function_names ss

functions_vars : (s : Scope) (ss : Placed t.stmts) → declarations t.stmts (functions_before s ss) ≡ variables (function_names ss)
unfolding functions_before declarations
functions_vars s p.no_stmts = refl
functions_vars s (p.more_stmts (p.declare (p.fun (Some f) ps body at)) ss) = ap (λ l. declared_as role.variable (word f.text) ∷ l) (functions_vars s ss)
functions_vars s (p.more_stmts (p.declare (p.fun None ps body at)) ss) = functions_vars s ss
functions_vars s (p.more_stmts x ss) = functions_vars s ss

pub joined_declare : (a b : Placed t.stmts) → declarations t.stmts (joined a b) ≡ declarations t.stmts a ++ declarations t.stmts b
unfolding declarations
joined_declare p.no_stmts b = refl
joined_declare (p.more_stmts x ss) b = ap (λ l. declarations t.stmt x ++ l) (joined_declare ss b) ∙ sym (append_assoc (declarations t.stmt x) (declarations t.stmts ss) (declarations t.stmts b))

items_declare : (xs : List (List ℕ)) → declarations t.items (items xs) ≡ variables xs
unfolding declarations
items_declare [] = refl
items_declare (x ∷ xs) = ap (λ l. declared_as role.variable (word x) ∷ l) (items_declare xs)

head_declares : (xs : List (List ℕ)) (ss : Placed t.stmts) → declarations t.stmts (declaring xs ss) ≡ variables xs ++ declarations t.stmts ss
unfolding declarations
head_declares [] ss = refl
head_declares (x ∷ xs) ss = ap (λ l. l ++ declarations t.stmts ss) (items_declare (x ∷ xs))

-- a body, lowered where these names are declared around its statements
abbrev pub lowered_body : Scope → Placed t.stmts → Placed t.stmts
lowered_body s body = body_from body (functions_before s body) (lowered s t.stmts body 0)

abbrev pub taken_by : Scope → Placed t.stmts → ℕ
taken_by s body = (lowered s t.stmts body 0).1

abbrev front_names : Scope → Placed t.stmts → List (List ℕ)
front_names s body = temporaries_from 0 (taken_by s body) ++ loop_names body

abbrev pub body_names : Scope → Placed t.stmts → List (List ℕ)
body_names s body = front_names s body ++ (function_names body ++ names_of is_variable (declarations t.stmts body))

pub body_declares : (s : Scope) (body : Placed t.stmts) → declarations t.stmts (lowered_body s body) ≡ variables (body_names s body)
body_declares s body =
    head_declares (front_names s body) (joined (functions_before s body) (lowered s t.stmts body 0).0)
    ∙ ap (λ l. variables (front_names s body) ++ l)
    (joined_declare (functions_before s body) (lowered s t.stmts body 0).0
    ∙ ap (λ l. l ++ declarations t.stmts (lowered s t.stmts body 0).0) (functions_vars s body)
    ∙ ap (λ l. variables (function_names body) ++ l) (stmts_vars s body 0)
    ∙ sym (variables_apart (function_names body) (names_of is_variable (declarations t.stmts body))))
    ∙ sym (variables_apart (front_names s body) (function_names body ++ names_of is_variable (declarations t.stmts body)))
