-- From a source to the program that it spells, or to the stage that refuses it.
use Rattle.std.specs.Prelude.{ℕ, ◌≡◌, List, length, Ok, Err}
use Rattle.es3_tree.specs.Tree as t
use Rattle.es3_tree.specs.Placed.{Placed}
use Rattle.es3_tokens.specs.Refusals as lex
use Rattle.es3_tokens.specs.Tokens as tokens
use Rattle.es3_tokens.specs.Cut as cut
use Rattle.es3_grammar.specs.Spots.{spots}
use Rattle.es3_grammar.specs.Limit.{Within}
use Rattle.es3_grammar.specs.Answers.{Answer, read, syntax, deep, answer}
use Rattle.page_cajole.specs.declared.source.Limits.{Limits}

-- how long a source may be, in bytes, and how deep its program may nest: 512 KiB and 128 where it is cajoled or printed
abbrev pub source_limits : Limits
source_limits = record { longest = 524288; deepest = 128 }

-- 16 MiB and 1,024 where it runs as it stands
abbrev pub text_limits : Limits
text_limits = record { longest = 16777216; deepest = 1024 }

-- the numbers of the refusals of tokens
abbrev pub lex_number : lex.Refusal → ℕ
lex_number lex.not_utf8 = 1
lex_number lex.bad_char = 2
lex_number lex.open_string = 3
lex_number lex.open_comment = 4
lex_number lex.bad_escape = 5
lex_number lex.number_form = 6
lex_number lex.number_too_large = 7
lex_number lex.escape_in_name = 8
lex_number lex.reg_exp = 9
lex_number lex.too_long = 10

pub data Source : Type 0 where
  -- it isn't cut into tokens: the number of the refusal, and its byte
  uncut : ℕ → ℕ → Source
  -- its tokens spell no program: 1 where no program goes on at the byte, 2, with the byte 0, where only programs past the limit go on
  unread : ℕ → ℕ → Source
  spelled : Placed t.program → Source

abbrev pub of_tokens : Answer → Source
of_tokens (read p) = spelled p
of_tokens (syntax at) = unread 1 at
of_tokens deep = unread 2 0

abbrev pub of_cut : ℕ → ℕ → cut.Answer → Source
of_cut deepest end (Err r) = uncut (lex_number r.0) r.1
of_cut deepest end (Ok ts) = of_tokens (answer deepest end ts)

abbrev pub source_of : Limits → List ℕ → Source
source_of l source = of_cut l.deepest (length source) (cut.cut l.longest source)

-- the source is cut into these tokens, and they spell the program within the limits
pub record Spells (l : Limits) (source : List ℕ) (p : Placed t.program) : Type 0 where
  pub spelled_by : List tokens.Placed
  pub cut : cut.cut l.longest source ≡ Ok spelled_by
  pub within : Within l.deepest p (spots spelled_by)
