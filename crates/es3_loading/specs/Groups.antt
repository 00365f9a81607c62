-- The forms that one function hands on to the next.
use Rattle.std.specs.Prelude.{Bool, true, false}
use Rattle.es3_tree.specs.Tree as t

-- primary expressions with no part (11.1)
abbrev pub is_leaf : t.Tree t.expr → Bool
is_leaf t.this = true
is_leaf t.null = true
is_leaf (t.bool b) = true
is_leaf (t.num n) = true
is_leaf (t.text us) = true
is_leaf (t.name x) = true
is_leaf _ = false

-- these, and operators (11.3 to 11.14)
abbrev pub is_leaf_or_operator : t.Tree t.expr → Bool
is_leaf_or_operator (t.array xs) = false
is_leaf_or_operator (t.object xs) = false
is_leaf_or_operator (t.function f) = false
is_leaf_or_operator (t.dot x k) = false
is_leaf_or_operator (t.index x y) = false
is_leaf_or_operator (t.call x xs) = false
is_leaf_or_operator (t.new x xs) = false
is_leaf_or_operator _ = true

-- statements with no part that is a tree (12.3, 12.7, 12.8)
abbrev pub is_bare : t.Tree t.stmt → Bool
is_bare t.empty = true
is_bare (t.continue l) = true
is_bare (t.break l) = true
is_bare _ = false

-- these, and `try` (12.14)
abbrev pub is_bare_or_try : t.Tree t.stmt → Bool
is_bare_or_try (t.try xs h f) = true
is_bare_or_try s = is_bare s

-- these, and statements with one statement within (12.5, 12.6, 12.10, 12.12)
abbrev pub is_bare_or_try_or_nested : t.Tree t.stmt → Bool
is_bare_or_try_or_nested (t.block xs) = false
is_bare_or_try_or_nested (t.var is) = false
is_bare_or_try_or_nested (t.expression e) = false
is_bare_or_try_or_nested (t.return e) = false
is_bare_or_try_or_nested (t.switch e cs) = false
is_bare_or_try_or_nested (t.throw e) = false
is_bare_or_try_or_nested (t.declare f) = false
is_bare_or_try_or_nested _ = true
