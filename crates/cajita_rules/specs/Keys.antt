-- The keys of an object literal.
use Rattle.std.specs.Prelude.{ℕ, List, map}
use Rattle.es3_tree.specs.declared.Name.{Name}
use Rattle.es3_tree.specs.declared.Expr.{Expr}

abbrev pub keys_of : List (Name × Expr) → List (List ℕ)
keys_of fs = map (λ f. f.0.text) fs
