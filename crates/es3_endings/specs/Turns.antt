-- What follows a turn of a loop, as data.
use Rattle.std.specs.Prelude.{ℕ, Bool, List, Some}
use Rattle.es3_language.specs.Statements as st
use Rattle.es3_moves.specs.Where.{plain_flow}
use Rattle.es3_endings.specs.declared.loops.Turn.{Turn}
use Rattle.es3_endings.specs.declared.loops.Turn.TheVariants.{Turns, Leaves}

abbrev pub plain_turn : Turn → st.Turn
plain_turn (Turns v) = st.turns v
plain_turn (Leaves flow) = st.leaves (plain_flow flow)

-- 12.12: whether a label is one of the labels
abbrev pub has_label : List ℕ → List (List ℕ) → Bool
has_label l ls = st.is_to (Some l) ls
