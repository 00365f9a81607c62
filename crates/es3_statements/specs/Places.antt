-- Parts of statements that may be absent.
use Rattle.std.specs.Prelude.{ℕ, List, [], Option, Some, None}
use Rattle.std.specs.declared.rc.Rc.{Rc}
use Rattle.std.specs.Global.{Global}
use Rattle.es3_moves.specs.Where.{plain_labels}
use Rattle.es3_moves.specs.declared.frame.Labels.{Labels}

-- the labels before a statement
abbrev pub maybe_labels : Option (Rc Labels Global) → List (List ℕ)
maybe_labels None = []
maybe_labels (Some l) = plain_labels l.value
