-- The program's classes.
use Rattle.std.specs.Prelude.{Bool, true, false}
use Rattle.css_grammar.specs.Characters as s
use Rattle.css_tokens.specs.declared.classes.Class.{Class}
use Rattle.css_tokens.specs.declared.classes.Class.TheVariants as c

abbrev pub class_of : Class → s.Class
class_of (c.Letter h) = s.letter h
class_of c.Digit = s.digit
class_of c.Dash = s.dash
class_of (c.Space h) = s.space h
class_of c.Dot = s.dot
class_of c.NumberSign = s.number_sign
class_of c.Star = s.star
class_of c.Slash = s.slash
class_of c.Colon = s.colon
class_of c.Semicolon = s.semicolon
class_of c.Comma = s.comma
class_of c.Exclamation = s.exclamation
class_of c.Percent = s.percent
class_of c.OpenBrace = s.open_brace
class_of c.CloseBrace = s.close_brace
class_of c.OpenParenthesis = s.open_parenthesis
class_of c.CloseParenthesis = s.close_parenthesis
class_of c.OpenBracket = s.open_bracket
class_of c.CloseBracket = s.close_bracket
class_of c.Quote = s.quote
class_of c.CombinatorSign = s.combinator_sign
class_of c.Backslash = s.backslash
class_of c.Other = s.other

-- an opening parenthesis
abbrev pub is_open : s.Class → Bool
is_open s.open_parenthesis = true
is_open _ = false
