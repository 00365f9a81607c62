-- What becomes of a source of a dialect.
use Rattle.std.specs.Prelude.{ℕ, List, Option, Some, None}
use Rattle.es3_tree.specs.Tree as t
use Rattle.es3_tree.specs.Placed as p
use Rattle.es3_tree.specs.Placed.{Placed}
use Rattle.cajita_tree.specs.Tree as c
use Rattle.cajita_rules.specs.Faults.{Fault}
use Rattle.cajita_rewrite.specs.Rewrite.{program_of}
use Rattle.page_cajole.specs.declared.dialects.Dialect.{Dialect}
use Rattle.page_cajole.specs.Dialects.{fault_in, module_in}
use Rattle.page_cajole.specs.Source.{Source, source_of, source_limits}
use Rattle.page_cajole.specs.Source as s

pub data Outcome : Type 0 where
  -- it isn't cut into tokens, or these spell no program: the number of the refusal in its stage, and the byte of the source
  uncut : ℕ → ℕ → Outcome
  unread : ℕ → ℕ → Outcome
  -- it breaks a rule: the number of the first fault, and the byte where that is
  broken : ℕ → ℕ → Outcome
  -- the program that stands for it
  cajoled : t.Tree t.program → Outcome

-- by the first fault, and by the module where there is none; a program without faults has a module, so the last line never comes
abbrev pub judged : Option Fault → Option (c.Tree c.program) → Outcome
judged (Some f) m = broken f.rule f.at
judged None (Some m) = cajoled (program_of m)
judged None None = broken 0 0

abbrev pub statements : Placed t.program → Placed t.stmts
statements (p.script body) = body

-- where these names are granted
abbrev pub outcome_of_body : Dialect → List (List ℕ) → Placed t.stmts → Outcome
outcome_of_body dialect granted body = judged (fault_in dialect granted body) (module_in dialect granted body)

abbrev pub outcome_of : Dialect → List (List ℕ) → Source → Outcome
outcome_of dialect granted (s.uncut number at) = uncut number at
outcome_of dialect granted (s.unread number at) = unread number at
outcome_of dialect granted (s.spelled program) = outcome_of_body dialect granted (statements program)

abbrev pub outcome : Dialect → List (List ℕ) → List ℕ → Outcome
outcome dialect granted source = outcome_of dialect granted (source_of source_limits source)
