-- The line of a change is that of what is told of it.
use Rattle.std.proofs.Common.{◌≡◌, ℕ, List, ◌++◌, append_assoc}
use Rattle.std.specs.Prelude.{codes}
use Rattle.caja_units.specs.Index.{number_units}
use Rattle.caja_units.specs.Literal.{literal}
use Rattle.node_deeds.specs.declared.told.Change.{Change}
use Rattle.node_deeds.specs.declared.told.Change.TheVariants as change
use Rattle.dom_lines.specs.Lines.{root_name, shown, line_end, change_line}
use Rattle.page_log.specs.Items.{change_told}
use Rattle.page_log.specs.Log.{Names, line}

-- one thing stands behind the node, or two
with_one : (root done node space a end : List ℕ) → root ++ done ++ node ++ (space ++ a) ++ end ≡ root ++ (done ++ node ++ space ++ a) ++ end
with_one root done node space a end = simp append_assoc

with_two : (root done node space a b end : List ℕ) → root ++ done ++ node ++ (space ++ a) ++ (space ++ b) ++ end ≡ root ++ (done ++ node ++ space ++ a ++ space ++ b) ++ end
with_two root done node space a b end = simp append_assoc

pub line_of_change : (names : Names) (c : Change) → change_line names.roots c ≡ line names (change_told c)
line_of_change names (change.Append root k c) = with_one (codes "dom " ++ root_name names.roots root) (codes " append") (shown (number_units k)) (codes " ") (number_units c) line_end
line_of_change names (change.Remove root k c) = with_one (codes "dom " ++ root_name names.roots root) (codes " remove") (shown (number_units k)) (codes " ") (number_units c) line_end
line_of_change names (change.Set root k n v) = with_two (codes "dom " ++ root_name names.roots root) (codes " set") (shown (number_units k)) (codes " ") (literal n) (literal v) line_end
line_of_change names (change.Text root k us) = with_one (codes "dom " ++ root_name names.roots root) (codes " text") (shown (number_units k)) (codes " ") (literal us) line_end
