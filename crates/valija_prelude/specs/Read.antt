-- The statements that the text of the prelude spells.
use Rattle.std.specs.Prelude.{ℕ, ◌≡◌, List, [], length, Ok, Err}
use Rattle.es3_tree.specs.Tree as t
use Rattle.es3_tree.specs.Placed as p
use Rattle.es3_tree.specs.Placed.{Placed}
use Rattle.es3_tokens.specs.Tokens as tokens
use Rattle.es3_tokens.specs.Cut as cut
use Rattle.es3_grammar.specs.Answers.{Answer, read, answer}
use Rattle.cajita_rules.specs.Faults.{faults}
use Rattle.valija_prelude.specs.Text.{prelude_text}

abbrev pub statements_in : Answer → Placed t.stmts
statements_in (read (p.script ss)) = ss
statements_in a = p.no_stmts

-- what a text spells that nests at most 128 deep
abbrev pub spelled_in : List ℕ → cut.Answer → Placed t.stmts
spelled_in text (Ok ts) = statements_in (answer 128 (length text) ts)
spelled_in text (Err r) = p.no_stmts

unfoldable pub prelude_statements : Placed t.stmts
prelude_statements = spelled_in prelude_text (cut.cut (length prelude_text) prelude_text)

-- the text is cut into tokens, these spell the statements, and the statements break no rule
pub record IsAccepted : Type 0 where
  pub spelled_by : List tokens.Placed
  pub cut : cut.cut (length prelude_text) prelude_text ≡ Ok spelled_by
  pub read : answer 128 (length prelude_text) spelled_by ≡ read (p.script prelude_statements)
  pub rules : faults [] prelude_statements ≡ []
