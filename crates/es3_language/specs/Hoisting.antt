-- What a program or a function body declares (ES3 10.1.3, 12.2, 13, 14).
use Rattle.std.specs.Prelude.{ℕ, List, [], ◌∷◌, ◌++◌, Some, None, if◌then◌else◌}
use Rattle.es3_tree.specs.Tree as t
use Rattle.es3_language.specs.Store.{Code}
use Rattle.es3_language.specs.Arguments.{is_arguments}

-- 12.2: the names that are declared by `var`, in their order, also within statements, but not within functions
abbrev pub vars_in : (s : t.Sort) → t.Tree s → List (List ℕ)
vars_in _ (t.block xs) = vars_in _ xs
vars_in _ (t.var is) = vars_in _ is
vars_in _ (t.branch e x y) = vars_in _ x ++ vars_in _ y
vars_in _ (t.while_loop e x) = vars_in _ x
vars_in _ (t.do_loop x e) = vars_in _ x
vars_in _ (t.for_loop i e u x) = vars_in _ i ++ vars_in _ x
vars_in _ (t.for_in i e x) = vars_in _ i ++ vars_in _ x
vars_in _ (t.with_object e x) = vars_in _ x
vars_in _ (t.switch e cs) = vars_in _ cs
vars_in _ (t.label l x) = vars_in _ x
vars_in _ (t.try xs h f) = (vars_in _ xs ++ vars_in _ h) ++ vars_in _ f
vars_in _ (t.more_stmts x xs) = vars_in _ x ++ vars_in _ xs
vars_in _ (t.more_items x e is) = x ∷ vars_in _ is
vars_in _ (t.some_stmt x) = vars_in _ x
vars_in _ (t.some_block xs) = vars_in _ xs
vars_in _ (t.first_var is) = vars_in _ is
vars_in _ (t.loop_var x) = x ∷ []
vars_in _ (t.more_cases e xs cs) = vars_in _ xs ++ vars_in _ cs
vars_in _ (t.some_handler x xs) = vars_in _ xs
vars_in _ _ = []

abbrev pub vars_of : t.Tree t.stmts → List (List ℕ)
vars_of xs = vars_in t.stmts xs

-- 13: the functions that are declared, each with its name, in their order
abbrev pub functions_of : t.Tree t.stmts → List (t.Tree t.func)
functions_of t.no_stmts = []
functions_of (t.more_stmts (t.declare f) xs) = f ∷ functions_of xs
functions_of (t.more_stmts x xs) = functions_of xs

-- the name that a function is declared by
abbrev pub declared_name : t.Tree t.func → List ℕ
declared_name (t.fun None params body) = []
declared_name (t.fun (Some x) params body) = x

-- 10.1.6: an activation has the name `arguments` already, so a `var` of that name declares nothing
abbrev pub own_vars : List (List ℕ) → List (List ℕ)
own_vars [] = []
own_vars (x ∷ xs) = if is_arguments x then own_vars xs else x ∷ own_vars xs

-- 13.2: what a function is made of, with these scopes around it
abbrev pub code_of : t.Tree t.func → List ℕ → Code
code_of (t.fun name params body) chain = record { params = params; vars = own_vars (vars_of body); functions = functions_of body; body = body; chain = chain }
