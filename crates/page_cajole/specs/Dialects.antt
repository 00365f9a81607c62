-- The dialects in which modules are written: which rule refuses a program, and which module it is.
use Rattle.std.specs.Prelude.{ℕ, List, Option, codes}
use Rattle.es3_tree.specs.Tree as t
use Rattle.es3_tree.specs.Placed.{Placed}
use Rattle.cajita_tree.specs.Tree as c
use Rattle.cajita_rules.specs.Faults.{Fault, first}
use Rattle.cajita_rules.specs.Faults as cajita
use Rattle.valija_rules.specs.Faults as valija
use Rattle.valija_prelude.specs.Read.{prelude_statements}
use Rattle.valija_lower.specs.Module.{lowered_source}
use Rattle.scope_rules.specs.Resolve.{module_of}
use Rattle.page_cajole.specs.declared.dialects.Dialect.{Dialect}
use Rattle.page_cajole.specs.declared.dialects.Dialect.TheVariants.{Cajita, Valija}

-- the first rule that it breaks, where these names are granted
abbrev pub fault_in : Dialect → List (List ℕ) → Placed t.stmts → Option Fault
fault_in Cajita granted body = first (cajita.faults granted body)
fault_in Valija granted body = first (valija.faults granted body)

-- it as a program of Cajita: itself; what it is lowered to, behind the prelude
abbrev pub in_cajita : Dialect → List (List ℕ) → Placed t.stmts → Placed t.stmts
in_cajita Cajita granted body = body
in_cajita Valija granted body = lowered_source prelude_statements granted body

-- its module
abbrev pub module_in : Dialect → List (List ℕ) → Placed t.stmts → Option (c.Tree c.program)
module_in dialect granted body = module_of granted (in_cajita dialect granted body)

-- the stage that refuses what breaks a rule
abbrev pub rule_stage : Dialect → List ℕ
rule_stage Cajita = codes "rule"
rule_stage Valija = codes "valija"
