-- What becomes of a text of ECMAScript 3 that is to run as it stands.
use Rattle.std.specs.Prelude.{ℕ, List, Option, Some, None}
use Rattle.es3_tree.specs.Tree as t
use Rattle.es3_tree.specs.View.{program}
use Rattle.es3_tree.specs.Placed.{Placed}
use Rattle.es3_grammar.specs.Plain.{plain}
use Rattle.es3_labels.specs.Misplaced.{Misplaced, first_of}
use Rattle.page_cajole.specs.Source.{Source, source_of, text_limits}
use Rattle.page_cajole.specs.Source as s
use Rattle.page_cajole.specs.declared.text.TextAnswer.{TextAnswer}
use Rattle.page_cajole.specs.declared.text.TextAnswer.TheVariants as answer

pub data Text : Type 0 where
  -- it isn't cut into tokens, or these spell no program: the number of the refusal in its stage, and the byte of the text
  uncut : ℕ → ℕ → Text
  unread : ℕ → ℕ → Text
  -- 12.7 to 12.9, 12.12: a jump has no target, or a label stands within a statement of the same label: the byte where the first begins
  misplaced : ℕ → Text
  -- the program that runs
  runs : t.Tree t.program → Text

abbrev pub by_labels : Option Misplaced → t.Tree t.program → Text
by_labels (Some m) p = misplaced m.at
by_labels None p = runs p

abbrev pub judged : Placed t.program → Text
judged p = by_labels (first_of p) (plain t.program p)

abbrev pub text_of : Source → Text
text_of (s.uncut number at) = uncut number at
text_of (s.unread number at) = unread number at
text_of (s.spelled p) = judged p

abbrev pub text_outcome : List ℕ → Text
text_outcome input = text_of (source_of text_limits input)

-- what an answer says
abbrev pub told : TextAnswer → Text
told (answer.Program p) = runs (program p)
told (answer.Uncut number at) = uncut number at
told (answer.Unread number at) = unread number at
told (answer.Misplaced at) = misplaced at
