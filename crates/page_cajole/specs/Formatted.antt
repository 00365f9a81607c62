-- What a source is formatted to.
use Rattle.std.specs.Prelude.{ℕ, ◌≡◌, ◌↔◌, List, IsTrue}
use Rattle.es3_tree.specs.Tree as t
use Rattle.es3_tree.specs.Placed.{Placed}
use Rattle.es3_grammar.specs.Plain.{plain}
use Rattle.es3_printed.specs.Tokens.{printed}
use Rattle.es3_printed.specs.Safe.{is_safe}
use Rattle.es3_printed.specs.Back.{IsReadBack}
use Rattle.page_cajole.specs.Source as s
use Rattle.page_cajole.specs.Source.{Source, source_of, source_limits, Spells}
use Rattle.page_cajole.specs.Refused.{IsUncut, IsUnread}
use Rattle.page_cajole.specs.declared.formatting.FormatAnswer.{FormatAnswer}
use Rattle.page_cajole.specs.declared.formatting.FormatAnswer.TheVariants as answer

pub data Formatted : Type 0 where
  -- it isn't cut into tokens, or these spell no program: the number of the refusal in its stage, and the byte of the source
  uncut : ℕ → ℕ → Formatted
  unread : ℕ → ℕ → Formatted
  -- the printed text of the program that it spells
  text : List ℕ → Formatted

abbrev pub text_of : Source → Formatted
text_of (s.uncut number at) = uncut number at
text_of (s.unread number at) = unread number at
text_of (s.spelled p) = text (printed (plain t.program p))

abbrev pub formatted : List ℕ → Formatted
formatted source = text_of (source_of source_limits source)

-- what an answer says
abbrev pub told : FormatAnswer → Formatted
told (answer.Text v) = text v.items
told (answer.Uncut number at) = uncut number at
told (answer.Unread number at) = unread number at

-- a source is formatted to the text of the one program that it spells; that text is read as the same program, apart from places, and may stand in a page;
-- and a source is refused just where it spells none, with the number and the byte of what refuses it
pub record IsFormatted (source : List ℕ) : Type 0 where
  pub one : (p q : Placed t.program) → Spells source_limits source p → Spells source_limits source q → p ≡ q
  pub where_spelled : (p : Placed t.program) → Spells source_limits source p → formatted source ≡ text (printed (plain t.program p))
  pub spelled : (w : List ℕ) → formatted source ≡ text w → (p : Placed t.program) × Spells source_limits source p × (w ≡ printed (plain t.program p))
  pub back : (p : Placed t.program) → Spells source_limits source p → IsReadBack (plain t.program p)
  pub safe : (w : List ℕ) → formatted source ≡ text w → IsTrue (is_safe w)
  pub where_uncut : (number at : ℕ) → (formatted source ≡ uncut number at) ↔ IsUncut source_limits source number at
  pub where_unread : (number at : ℕ) → (formatted source ≡ unread number at) ↔ IsUnread source_limits source number at
