-- Names, each once, and those that a body declares by `var`.
use Rattle.std.specs.Prelude.{ℕ, Bool, true, false, List, [], ◌∷◌, ◌++◌, if◌then◌else◌}
use Rattle.es3_tree.specs.Tree as t
use Rattle.es3_tree.specs.Placed.{Placed}
use Rattle.cajita_names.specs.Rules.{is_among}
use Rattle.cajita_names.specs.Declarations as d
use Rattle.cajita_names.specs.Declarations.{Role, Declaration, declarations}

-- each name once, where it stands first, behind those that were seen before
abbrev pub once_after : List (List ℕ) → List (List ℕ) → List (List ℕ)
once_after seen [] = seen
once_after seen (x ∷ xs) = once_after (if is_among seen x then seen else seen ++ x ∷ []) xs

-- the names that a body declares by `var`: those of `var` statements and of heads without `in`, then those that heads with `in` alone declare
abbrev pub is_variable : Role → Bool
is_variable d.variable = true
is_variable r = false

abbrev pub is_loop_variable : Role → Bool
is_loop_variable d.loop_variable = true
is_loop_variable r = false

abbrev pub names_of : (Role → Bool) → List Declaration → List (List ℕ)
names_of has [] = []
names_of has (e ∷ es) = if has e.role then e.word.text ∷ names_of has es else names_of has es

abbrev pub vars_of : Placed t.stmts → List (List ℕ)
vars_of body = once_after (once_after [] (names_of is_variable (declarations t.stmts body))) (names_of is_loop_variable (declarations t.stmts body))
