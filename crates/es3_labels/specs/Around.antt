-- What stands around a statement within its program or its function, the innermost first (ES3 12.6, 12.7, 12.8, 12.11, 12.12, 13).
use Rattle.std.specs.Prelude.{ℕ, ◌&&◌, ◌||◌, Bool, true, false, List}
use Rattle.caja_units.specs.Units.{same_units}

pub data Around : Type 0 where
  in_program : Around
  in_function : Around
  -- the statement of a loop, the clauses of a `switch`
  in_loop : Around → Around
  in_switch : Around → Around
  -- the statement of a label; the truth value says that it is a loop, behind further labels or not
  in_label : List ℕ → Bool → Around → Around

-- what a `continue` without a label goes on with (12.7)
abbrev pub has_loop : Around → Bool
has_loop in_program = false
has_loop in_function = false
has_loop (in_loop a) = true
has_loop (in_switch a) = has_loop a
has_loop (in_label l loop a) = has_loop a

-- what a `break` without a label leaves (12.8)
abbrev pub has_break : Around → Bool
has_break in_program = false
has_break in_function = false
has_break (in_loop a) = true
has_break (in_switch a) = true
has_break (in_label l loop a) = has_break a

-- what a `break` with the label leaves (12.8)
abbrev pub has_label : Around → List ℕ → Bool
has_label in_program x = false
has_label in_function x = false
has_label (in_loop a) x = has_label a x
has_label (in_switch a) x = has_label a x
has_label (in_label l loop a) x = same_units x l || has_label a x

-- what a `continue` with the label goes on with (12.7)
abbrev pub has_loop_label : Around → List ℕ → Bool
has_loop_label in_program x = false
has_loop_label in_function x = false
has_loop_label (in_loop a) x = has_loop_label a x
has_loop_label (in_switch a) x = has_loop_label a x
has_loop_label (in_label l loop a) x = (loop && same_units x l) || has_loop_label a x

-- what a `return` leaves (12.9)
abbrev pub has_function : Around → Bool
has_function in_program = false
has_function in_function = true
has_function (in_loop a) = has_function a
has_function (in_switch a) = has_function a
has_function (in_label l loop a) = has_function a
