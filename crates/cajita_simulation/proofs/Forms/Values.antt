-- The laws of the expressions at a place, which forms have of their parts.
use Rattle.std.proofs.Common.{ℕ, false}
use Rattle.cajita_tree.specs.Tree as c
use Rattle.cajita_rewrite.specs.Rewrite.{rewritten, temps}
use Rattle.cajita_simulation.specs.Guest.{Guest}
use Rattle.cajita_simulation.proofs.Relation.{Here}
use Rattle.cajita_simulation.proofs.Laws.{ValueLaw}

abbrev pub Values : Here → ℕ → Type 0
Values H d = (b : ℕ) (e : c.Tree c.expr) → Guest H.vars H.free c.expr e → ValueLaw H d b (temps c.expr e) e (rewritten false c.expr b e)
