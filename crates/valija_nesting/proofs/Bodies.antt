-- Loops over keys, functions and bodies of lowered programs: how deep they are, from how deep their parts are.
use Rattle.std.proofs.Common.{◌≡◌, ℕ, zero, suc, ◌+◌, ◌≤◌, Bool, true, false, List, [], ◌∷◌, ◌++◌, map, Option, Some, None, refl, sym, ◌∙◌, subst, arith}
use Rattle.std.specs.Prelude.{max, codes}
use Rattle.es3_tree.specs.Tree as t
use Rattle.es3_tree.specs.Placed as p
use Rattle.es3_tree.specs.Placed.{Placed, Word}
use Rattle.es3_tree.specs.declared.BinOp.TheVariants.{Less}
use Rattle.cajita_tree.specs.Tree as c
use Rattle.cajita_names.specs.Once.{vars_of}
use Rattle.cajita_names.specs.Scope.{Scope}
use Rattle.cajita_forms.specs.Forms.{text_of, texts_of}
use Rattle.cajita_forms.specs.Arguments.{names_arguments}
use Rattle.cajita_rewrite.specs.Rewrite.{temps, declared, others}
use Rattle.scope_rules.specs.Resolve.{resolved, declared_functions}
use Rattle.cajoled_nesting.specs.Nesting.{marked, name_head, temp_head, head, deep}
use Rattle.valija_forms.specs.Numbered.{one, both, three, four}
use Rattle.valija_forms.specs.Forms.{word, name, receiver_name, kept, keeps, ask, list1, list2, number, items, declaring, joined, declares, named, taking_receiver, over_keys, temporaries_from}
use Rattle.valija_parts.specs.Lower.{lowered, functions_before, declares_function, loop_names, body_from}
use Rattle.valija_nesting.proofs.Parts.{Most, form, two_parts, Nests, deeper}
use Rattle.valija_nesting.proofs.ExpressionForms.{num_nests, name_nests, function_nests, dot_nests, index_nests, call_nests, binary_nests, comma_nests, step_name_nests, no_exprs_nests, no_expr_nests, some_expr_nests}
use Rattle.valija_nesting.proofs.StatementForms.{block_nests, var_nests, expression_nests, branch_nests, for_nests, return_nests, no_stmts_nests, more_stmts_nests, no_items_nests, more_items_nests, no_stmt_nests, first_expr_nests}
use Rattle.valija_nesting.proofs.Asking.{list1_nests, list2_nests, ask_nests, kept_nests, keeps_nests}

-- ---- the loop over the keys of an object

module _ (a b d : ℕ) where
  -- `a = e, b = $v.ks(a), c = 0`
  keys_first : {n : ℕ} {e : Placed t.expr} → Nests t.expr n e → Nests t.first (max 6 (3 + n)) (p.first_expr (p.comma (p.comma (keeps a e) (keeps b (ask (codes "ks") (list1 (kept a))))) (keeps d (number 0))))
  keys_first h =
      let list = keeps_nests b (ask_nests (codes "ks") (list1_nests (kept_nests a))) in
      deeper (first_expr_nests (comma_nests (comma_nests (keeps_nests a h) list) (keeps_nests d (num_nests _)))) (omega arith)

  keys_test : Nests t.maybe_expr 4 (p.some_expr (p.binary Less (kept d) (p.dot (kept b) (word (codes "length")))))
  keys_test = deeper (some_expr_nests (binary_nests Less (kept_nests d) (dot_nests (word (codes "length")) (kept_nests b)))) (omega arith)

  -- `{ w; S }`
  keys_inner : {n l : ℕ} {w : Placed t.expr} {x : Placed t.stmt} → Nests t.expr n w → Nests t.stmt l x → Nests t.stmt (1 + max (2 + max 1 n) l) (p.block (p.more_stmts (p.expression w) (p.more_stmts x p.no_stmts)))
  keys_inner {n} {l} h i =
      let first : Nests t.stmt (max (2 + max 1 n) l) (p.expression _) = deeper (expression_nests h) (omega arith) in
      let second : Nests t.stmt (max (2 + max 1 n) l) _ = deeper i (omega arith) in
      block_nests (more_stmts_nests first (more_stmts_nests second (deeper no_stmts_nests (omega arith))))

  keys_branch : {n l : ℕ} {w : Placed t.expr} {x : Placed t.stmt} → Nests t.expr n w → Nests t.stmt l x
      → Nests t.stmt (max 6 (2 + max (2 + max 1 n) l)) (p.branch (ask (codes "h") (list2 (p.index (kept b) (kept d)) (kept a))) (p.block (p.more_stmts (p.expression w) (p.more_stmts x p.no_stmts))) p.no_stmt)
  keys_branch h i = deeper (branch_nests (ask_nests (codes "h") (list2_nests (index_nests (kept_nests b) (kept_nests d)) (kept_nests a))) (keys_inner h i) no_stmt_nests) (omega arith)

  pub over_keys_nests : {n e l : ℕ} {w o : Placed t.expr} {x : Placed t.stmt} → Nests t.expr n w → Nests t.expr e o → Nests t.stmt l x → Nests t.stmt (4 + max 4 (max e (max (2 + n) l))) (over_keys a b d w o x)
  over_keys_nests {n} {e} {l} h i o =
      let body : Nests t.stmt (1 + max 6 (2 + max (2 + max 1 n) l)) _ = block_nests (more_stmts_nests (keys_branch h o) (deeper no_stmts_nests (omega arith))) in
      deeper (for_nests (keys_first i) keys_test (some_expr_nests (step_name_nests true false (word _))) body) (omega arith)

-- ---- a function whose body declares none

pub marks_within : (fs : c.Tree c.funcs) → marked fs ≤ 4
marks_within c.no_funcs = omega arith
marks_within (c.more_funcs (c.fun None params args body) fs) = marks_within fs
marks_within (c.more_funcs (c.fun (Some x) params args body) fs) = let h = marks_within fs in omega (arith, h)

items_within : (n : ℕ) (xs : List (List ℕ)) → temp_head n (name_head xs) ≤ 4
items_within zero [] = omega arith
items_within zero (x ∷ xs) = omega arith
items_within (suc n) xs = omega arith

head_within : (args : Bool) (body : c.Tree c.body) → head args body ≤ 4
head_within true body = omega arith
head_within false (c.a_body fs vars xs) = items_within (temps c.stmts xs) (others vars (declared c.stmts xs))

-- no function is declared
abbrev pub HasNone : Placed t.stmts → Type 0
HasNone ss = declared_functions ss ≡ Some c.no_funcs

pub no_functions : (ss : Placed t.stmts) → HasNone ss → Most c.funcs 0 (declared_functions ss)
unfolding deep
no_functions ss e = subst (λ o. Most c.funcs 0 o) (sym e) (form c.no_funcs (λ m. omega arith))

body_within : (n : ℕ) (m args : Bool) (fs : c.Tree c.funcs) (vars : List (List ℕ)) (ss : c.Tree c.stmts) (name : Option (List ℕ)) (params : List (List ℕ))
    → deep false c.funcs fs ≤ 0 → deep false c.stmts ss ≤ n → deep m c.func (c.fun name params args (c.a_body fs vars ss)) ≤ 1 + max 4 n
unfolding deep
body_within n m args fs vars ss name params h i = let a = head_within args (c.a_body fs vars ss) in let b = marks_within fs in omega (arith, a, b, h, i)

func_nests : {n : ℕ} (x : Option Word) (ps : List Word) (body : Placed t.stmts) (at : ℕ) → HasNone body → Nests t.stmts n body → Nests t.func (1 + max 4 n) (p.fun x ps body at)
unfolding resolved
func_nests {n} x ps body at e h = record {
  there = two_parts (λ fs ss. c.fun (text_of x) (texts_of ps) (names_arguments t.stmts body) (c.a_body fs (vars_of body) ss)) (no_functions body e) h.there
      (λ m fs ss i j. body_within n m (names_arguments t.stmts body) fs (vars_of body) ss (text_of x) (texts_of ps) i j);
}

pub receiver_function_nests : {n : ℕ} (ps : List Word) (body : Placed t.stmts) → HasNone body → Nests t.stmts n body → Nests t.expr (5 + max 4 n) (taking_receiver ps body)
receiver_function_nests ps body e h = deeper (ask_nests (codes "dis") (list1_nests (function_nests (func_nests None (word receiver_name ∷ map (λ x. word x.text) ps) body 0 e h)))) (omega arith)

-- `var f = e;`
pub declares_nests : {n : ℕ} {e : Placed t.expr} (f : Word) → Nests t.expr n e → Nests t.stmt (1 + n) (declares f e)
declares_nests f h = deeper (var_nests (more_items_nests (word f.text) (some_expr_nests h) no_items_nests)) (omega arith)

pub named_nests : {n : ℕ} {e : Placed t.expr} (f : Word) → Nests t.expr n e → Nests t.expr (6 + max 3 n) (named f e)
unfolding declared_functions
named_nests {n} {e} f h =
    let first : Nests t.stmt (1 + max 1 n) (declares f e) = deeper (declares_nests f h) (omega arith) in
    let last : Nests t.stmt (1 + max 1 n) (p.return (p.some_expr (name f.text)) 0) = deeper (return_nests 0 (some_expr_nests (name_nests (word f.text)))) (omega arith) in
    let body = more_stmts_nests first (more_stmts_nests last (deeper no_stmts_nests (omega arith))) in
    deeper (call_nests (function_nests (func_nests None [] (p.more_stmts (declares f e) (p.more_stmts (p.return (p.some_expr (name f.text)) 0) p.no_stmts)) 0 refl body)) no_exprs_nests) (omega arith)

-- ---- lowered statements declare no function

pub never : {A : Type 0} → false ≡ true → A
never e = absurd cc

skipped : (x : Placed t.stmt) (ss : Placed t.stmts) → declares_function x ≡ false → declared_functions (p.more_stmts x ss) ≡ declared_functions ss
unfolding declared_functions
skipped (p.declare f) ss e = never (sym e)
skipped x ss e = refl

statement_declares : (s : Scope) (x : Placed t.stmt) (n : ℕ) → declares_function (lowered s t.stmt x n).0 ≡ false
unfolding lowered one both three four
statement_declares s (p.declare f) n = refl
statement_declares s x n = refl

statements_declare : (s : Scope) (ss : Placed t.stmts) (n : ℕ) → HasNone (lowered s t.stmts ss n).0
unfolding lowered one both three four declared_functions
statements_declare s p.no_stmts n = refl
statements_declare s (p.more_stmts (p.declare f) ss) n = statements_declare s ss n
statements_declare s (p.more_stmts x ss) n = skipped (lowered s t.stmt x n).0 (lowered s t.stmts ss (lowered s t.stmt x n).1).0 (statement_declares s x n) ∙ statements_declare s ss (lowered s t.stmt x n).1

functions_declare : (s : Scope) (ss rest : Placed t.stmts) → declared_functions (joined (functions_before s ss) rest) ≡ declared_functions rest
unfolding functions_before declared_functions
functions_declare s p.no_stmts rest = refl
functions_declare s (p.more_stmts (p.declare (p.fun (Some f) ps body at)) ss) rest = functions_declare s ss rest
functions_declare s (p.more_stmts (p.declare (p.fun None ps body at)) ss) rest = functions_declare s ss rest
functions_declare s (p.more_stmts x ss) rest = functions_declare s ss rest

front_declares : (xs : List (List ℕ)) (ss : Placed t.stmts) → declared_functions (declaring xs ss) ≡ declared_functions ss
unfolding declared_functions
front_declares [] ss = refl
front_declares (x ∷ xs) ss = refl

-- ---- a body

-- lowered where these names are declared around its statements
abbrev pub lowered_body : Scope → Placed t.stmts → Placed t.stmts
lowered_body s body = body_from body (functions_before s body) (lowered s t.stmts body 0)

pub body_declares : (s : Scope) (body : Placed t.stmts) → HasNone (lowered_body s body)
body_declares s body =
    front_declares (temporaries_from 0 (lowered s t.stmts body 0).1 ++ loop_names body) (joined (functions_before s body) (lowered s t.stmts body 0).0)
    ∙ functions_declare s body (lowered s t.stmts body 0).0 ∙ statements_declare s body 0

items_nests : (xs : List (List ℕ)) → Nests t.items 0 (items xs)
items_nests [] = no_items_nests
items_nests (x ∷ xs) = deeper (more_items_nests (word x) no_expr_nests (items_nests xs)) (omega arith)

pub declaring_nests : {n : ℕ} {ss : Placed t.stmts} (xs : List (List ℕ)) → 1 ≤ n → Nests t.stmts n ss → Nests t.stmts n (declaring xs ss)
declaring_nests [] e h = h
declaring_nests (x ∷ xs) e h = more_stmts_nests (deeper (var_nests (items_nests (x ∷ xs))) (omega (arith, e))) h
