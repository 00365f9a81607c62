-- The function that one statement declares.
use Rattle.std.specs.Prelude.{List, [], ◌∷◌}
use Rattle.es3_tree.specs.Tree as t

-- 13
abbrev pub declared_function : t.Tree t.stmt → List (t.Tree t.func)
declared_function (t.declare f) = f ∷ []
declared_function _ = []
