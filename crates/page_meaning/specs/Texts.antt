-- What becomes of a text that runs as it stands.
use Rattle.std.specs.Prelude.{◌≡◌, ◌↔◌, ℕ, List, Some, None}
use Rattle.es3_tree.specs.Tree as t
use Rattle.es3_tree.specs.Placed.{Placed}
use Rattle.es3_grammar.specs.Plain.{plain}
use Rattle.es3_labels.specs.Misplaced.{Misplaced, first_of}
use Rattle.page_cajole.specs.Source.{Spells, text_limits}
use Rattle.page_cajole.specs.Refused.{IsUncut, IsUnread}
use Rattle.page_cajole.specs.Text.{text_outcome, uncut, unread, misplaced, runs}

-- the text spells the program within the limits, and its jumps have their targets (ES3 12.7 to 12.9, 12.12)
pub record Runs (source : List ℕ) (p : t.Tree t.program) : Type 0 where
  pub tree : Placed t.program
  pub spelled : Spells text_limits source tree
  pub placed : first_of tree ≡ None
  pub program : p ≡ plain t.program tree

-- the first of its jumps or labels that is misplaced stands at this byte
pub record IsMisplaced (source : List ℕ) (at : ℕ) : Type 0 where
  pub tree : Placed t.program
  pub spelled : Spells text_limits source tree
  pub found : Misplaced
  pub first : first_of tree ≡ Some found
  pub place : at ≡ found.at

-- a text spells one program at most; it runs just where it spells one whose jumps have their targets, and that program runs; and it is refused just where a jump or a label is misplaced, or where it
-- spells no program, with the number and the byte of what refuses it
pub record IsText (source : List ℕ) : Type 0 where
  pub one : (p q : Placed t.program) → Spells text_limits source p → Spells text_limits source q → p ≡ q
  pub where_runs : (p : t.Tree t.program) → (text_outcome source ≡ runs p) ↔ Runs source p
  pub where_misplaced : (at : ℕ) → (text_outcome source ≡ misplaced at) ↔ IsMisplaced source at
  pub where_uncut : (number at : ℕ) → (text_outcome source ≡ uncut number at) ↔ IsUncut text_limits source number at
  pub where_unread : (number at : ℕ) → (text_outcome source ≡ unread number at) ↔ IsUnread text_limits source number at
