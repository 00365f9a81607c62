-- What the rules answer for a program: its module exactly where it has no fault, and else its first fault.
use Rattle.std.specs.Prelude.{ℕ, ◌≡◌, List, [], Some, Result, Ok, Err}
use Rattle.es3_tree.specs.Tree as t
use Rattle.es3_tree.specs.Placed.{Placed}
use Rattle.cajita_tree.specs.declared.Module.{Module}
use Rattle.cajita_tree.specs.View.{module_view}
use Rattle.scope_rules.specs.declared.RuleError.{RuleError}
use Rattle.scope_rules.specs.declared.RuleError.TheVariants as error
use Rattle.scope_rules.specs.Resolve.{module_of}
use Rattle.cajita_rules.specs.Faults.{faults, first}

abbrev pub Checks : Result Module RuleError → List (List ℕ) → Placed t.stmts → Type 0
Checks (Ok m) grants body = (faults grants body ≡ []) × (module_of grants body ≡ Some (module_view m))
Checks (Err (error.Fault number at text)) grants body = first (faults grants body) ≡ Some (record { rule = number; at = at; text = text })
Checks (Err error.Memory) grants body = Unit {0}
