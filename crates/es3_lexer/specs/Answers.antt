-- What the program's answers are in the definition.
use Rattle.std.specs.Prelude.{ℕ, ◌≡◌, List, Option, Some, None, Result, Ok, Err, map, length}
use Rattle.std.specs.Global.{Vec}
use Rattle.es3_tokens.specs.Refusals as r
use Rattle.es3_tokens.specs.Cut.{Answer}
use Rattle.es3_lexer.specs.Views.{placed_of}
use Rattle.es3_lexer.specs.declared.token.Token.{Token}
use Rattle.es3_lexer.specs.declared.token.Tokens.{Tokens}
use Rattle.es3_lexer.specs.declared.token.LexError.{LexError}
use Rattle.es3_lexer.specs.declared.token.LexError.TheVariants as e

-- a refusal and its place, and none where memory is wanting
abbrev pub refusal_of : LexError → Option (r.Refusal × ℕ)
refusal_of (e.NotUtf8 p) = Some (r.not_utf8, p)
refusal_of (e.BadChar p) = Some (r.bad_char, p)
refusal_of (e.OpenString p) = Some (r.open_string, p)
refusal_of (e.OpenComment p) = Some (r.open_comment, p)
refusal_of (e.BadEscape p) = Some (r.bad_escape, p)
refusal_of (e.NumberForm p) = Some (r.number_form, p)
refusal_of (e.NumberTooLarge p) = Some (r.number_too_large, p)
refusal_of (e.EscapeInName p) = Some (r.escape_in_name, p)
refusal_of (e.RegExp p) = Some (r.reg_exp, p)
refusal_of (e.TooLong p) = Some (r.too_long, p)
refusal_of e.Memory = None

abbrev pub Refuses : Option (r.Refusal × ℕ) → Answer → Type 0
Refuses None a = Unit {0}
Refuses (Some r) a = a ≡ Err r

-- an answer is these tokens, or this refusal, unless memory is wanting
abbrev pub Gives : Result (Vec Token) LexError → Answer → Type 0
Gives (Ok v) a = a ≡ Ok (map placed_of v.items)
Gives (Err e) a = Refuses (refusal_of e) a

-- the same with the length of the source
abbrev pub Cuts : Result Tokens LexError → List ℕ → Answer → Type 0
Cuts (Ok t) s a = (a ≡ Ok (map placed_of t.list.items)) × (t.end ≡ length s)
Cuts (Err e) s a = Refuses (refusal_of e) a
