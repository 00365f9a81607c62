-- A statement that declares a function: it stands among its body's functions alone.
use Rattle.std.specs.Prelude.{Bool, true, false}
use Rattle.es3_tree.specs.Tree as t
use Rattle.es3_tree.specs.Placed as p
use Rattle.es3_tree.specs.Placed.{Placed}

abbrev pub is_declaration : Placed t.stmt → Bool
is_declaration (p.declare f) = true
is_declaration s = false
