-- What the program's tokens and steps are in the definition.
use Rattle.std.specs.Prelude.{◌≤◌, [], ◌∷◌}
use Rattle.std.specs.Char.Escape.{encode_utf16}
use Rattle.es3_tree.specs.Token as t
use Rattle.es3_tokens.specs.Tokens.{Placed, placed}
use Rattle.es3_tokens.specs.Texts.{Reading, closed, unclosed, broken}
use Rattle.es3_tokens.specs.Refusals as r
use Rattle.es3_tokens.specs.Cut as c
use Rattle.es3_lexer.specs.Tables.{word_number, punct_number}
use Rattle.es3_lexer.specs.declared.token.Kind.{Kind}
use Rattle.es3_lexer.specs.declared.token.Kind.TheVariants as kinds
use Rattle.es3_lexer.specs.declared.token.Token.{Token}
use Rattle.es3_lexer.specs.declared.step.Refusal.{Refusal}
use Rattle.es3_lexer.specs.declared.step.Refusal.TheVariants as refusals
use Rattle.es3_lexer.specs.declared.step.Step.{Step}
use Rattle.es3_lexer.specs.declared.step.Step.TheVariants as steps
use Rattle.es3_lexer.specs.declared.texts.Escape.{Escape}
use Rattle.es3_lexer.specs.declared.texts.Escape.TheVariants as e

abbrev pub token_of : Kind → t.Token
token_of (kinds.Name us) = t.name us
token_of (kinds.Word w) = t.word (word_number w)
token_of (kinds.Punct p) = t.punct (punct_number p)
token_of (kinds.Num n) = t.num n
token_of (kinds.Text us) = t.text us

abbrev pub placed_of : Token → Placed
placed_of t = placed (token_of t.kind) t.start t.end t.line

abbrev pub refusal_view : Refusal → r.Refusal
refusal_view refusals.BadChar = r.bad_char
refusal_view refusals.OpenString = r.open_string
refusal_view refusals.OpenComment = r.open_comment
refusal_view refusals.BadEscape = r.bad_escape
refusal_view refusals.NumberForm = r.number_form
refusal_view refusals.NumberTooLarge = r.number_too_large
refusal_view refusals.EscapeInName = r.escape_in_name
refusal_view refusals.RegExp = r.reg_exp

abbrev pub step_of : Step → c.Step
step_of (steps.Skip l n) = c.skip l n
step_of (steps.Accept t n) = c.accept (token_of t) n
step_of (steps.Refuse r) = c.refuse (refusal_view r)

abbrev pub reading_of : Escape → Reading
reading_of (e.Unit u n) = closed (u ∷ []) n
reading_of (e.Itself c) = closed (encode_utf16 c) 1
reading_of e.End = unclosed
reading_of e.Broken = broken

-- an escape has at most five characters
abbrev pub IsShort : Escape → Type 0
IsShort (e.Unit u n) = n ≤ 5
IsShort (e.Itself c) = Unit {0}
IsShort e.End = Unit {0}
IsShort e.Broken = Unit {0}
