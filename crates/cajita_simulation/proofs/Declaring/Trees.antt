-- What the statements of the functions that a body declares, and their marks, declare themselves.
use Rattle.std.proofs.Common.{◌≡◌, false, List, [], ◌∷◌, Some, None, refl, ap, ◌∙◌}
use Rattle.es3_tree.specs.Tree as t
use Rattle.es3_language.specs.Hoisting.{vars_of, functions_of}
use Rattle.cajita_tree.specs.Tree as c
use Rattle.cajita_rewrite.specs.Rewrite.{rewritten, joined, marks}

-- the functions, rewritten
abbrev pub func_list : c.Tree c.funcs → List (t.Tree t.func)
func_list c.no_funcs = []
func_list (c.more_funcs f fs) = rewritten false c.func 0 f ∷ func_list fs

-- a mark declares nothing

marks_vars : (fs : c.Tree c.funcs) (rest : t.Tree t.stmts) → vars_of (marks fs rest) ≡ vars_of rest
marks_vars c.no_funcs rest = refl
marks_vars (c.more_funcs (c.fun None params args body) fs) rest = marks_vars fs rest
marks_vars (c.more_funcs (c.fun (Some x) params args body) fs) rest = marks_vars fs rest

marks_functions : (fs : c.Tree c.funcs) (rest : t.Tree t.stmts) → functions_of (marks fs rest) ≡ functions_of rest
marks_functions c.no_funcs rest = refl
marks_functions (c.more_funcs (c.fun None params args body) fs) rest = marks_functions fs rest
marks_functions (c.more_funcs (c.fun (Some x) params args body) fs) rest = marks_functions fs rest

-- a function's statement declares that function, and no variable

functions_vars : (fs : c.Tree c.funcs) (rest : t.Tree t.stmts) → vars_of (joined (rewritten false c.funcs 0 fs) rest) ≡ vars_of rest
unfolding rewritten
functions_vars c.no_funcs rest = refl
functions_vars (c.more_funcs f fs) rest = functions_vars fs rest

functions_list : (fs : c.Tree c.funcs) (rest : t.Tree t.stmts) → functions_of rest ≡ [] → functions_of (joined (rewritten false c.funcs 0 fs) rest) ≡ func_list fs
unfolding rewritten
functions_list c.no_funcs rest none = none
functions_list (c.more_funcs f fs) rest none = ap (λ l. rewritten false c.func 0 f ∷ l) (functions_list fs rest none)

-- the functions of a body, where its own statements declare none
pub declared_vars : (fs : c.Tree c.funcs) (rest : t.Tree t.stmts) → vars_of (joined (rewritten false c.funcs 0 fs) (marks fs rest)) ≡ vars_of rest
declared_vars fs rest = functions_vars fs (marks fs rest) ∙ marks_vars fs rest

pub declared_functions : (fs : c.Tree c.funcs) (rest : t.Tree t.stmts) → functions_of rest ≡ [] → functions_of (joined (rewritten false c.funcs 0 fs) (marks fs rest)) ≡ func_list fs
declared_functions fs rest none = functions_list fs (marks fs rest) (marks_functions fs rest ∙ none)
