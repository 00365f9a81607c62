-- What a source of Valija is lowered to, by computation: the tree of the lowered source, without its places, beside the tree of a text of Cajita.
use Rattle.std.specs.Prelude.{ℕ, List, [], Option, Some, None, Ok, Err}
use Rattle.es3_tree.specs.Tree as t
use Rattle.es3_tree.specs.Placed as p
use Rattle.es3_tree.specs.Placed.{Placed}
use Rattle.es3_tokens.specs.Cut as cut
use Rattle.es3_tokens.specs.Quick.{quick_chars}
use Rattle.es3_grammar.specs.Plain.{plain}
use Rattle.es3_grammar.specs.Spots.{spots}
use Rattle.es3_grammar.specs.Within.{Reading, program, broken}
use Rattle.es3_grammar.specs.Sums.{read_quickly}
use Rattle.valija_lower.specs.Module.{lowered_body}

abbrev pub read_tokens : cut.Answer → Reading
read_tokens (Ok ts) = read_quickly 400 (spots ts)
read_tokens (Err e) = broken

abbrev pub read_source : List ℕ → Reading
read_source s = read_tokens (quick_chars s)

abbrev pub on_statements : {A : Type 0} → Reading → (Placed t.stmts → A) → Option A
on_statements (program (p.script ss)) f = Some (f ss)
on_statements r f = None

-- the statements that a text spells, and those that a source is lowered to where these names are granted, or none
abbrev pub read_text : List ℕ → Option (t.Tree t.stmts)
read_text s = on_statements (read_source s) (plain t.stmts)

abbrev pub lowered_with : List (List ℕ) → List ℕ → Option (t.Tree t.stmts)
lowered_with grants s = on_statements (read_source s) (λ ss. plain t.stmts (lowered_body grants ss))

abbrev pub lowered_text : List ℕ → Option (t.Tree t.stmts)
lowered_text s = lowered_with [] s
