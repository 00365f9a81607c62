-- The source of the module that stands for a program of Valija.
use Rattle.std.specs.Prelude.{ℕ, List}
use Rattle.es3_tree.specs.Tree as t
use Rattle.es3_tree.specs.Placed.{Placed}
use Rattle.cajita_rules.specs.Faults.{module_scope}
use Rattle.valija_forms.specs.Forms.{joined}
use Rattle.valija_parts.specs.Lower.{lowered, functions_before, body_from}

-- the statements that stand for those of a program, where these names are granted
abbrev pub lowered_body : List (List ℕ) → Placed t.stmts → Placed t.stmts
lowered_body grants body = body_from body (functions_before (module_scope grants body) body) (lowered (module_scope grants body) _ body 0)

-- the prelude, and then the lowered program
abbrev pub lowered_source : Placed t.stmts → List (List ℕ) → Placed t.stmts → Placed t.stmts
lowered_source prelude grants body = joined prelude (lowered_body grants body)
