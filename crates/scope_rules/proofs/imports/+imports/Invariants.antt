-- What is left to go over goes behind the names so far.
use Rattle.std.proofs.Common.{◌≡◌, drop}
use Rattle.es3_tree.specs.Tree as t
use Rattle.es3_tree.specs.PlacedView as v
use Rattle.scope_rules.specs.Free.{free}
use Rattle.cajita_names.specs.Once.{once_after}
use Rattle.cajita_names.specs.Views.{scope_of}
use Rattle.scope_rules.proofs.imports.+imports.Given as goal

abbrev pub invariant-from_exprs-loop-expression : goal.invariant-from_exprs-loop-expression
invariant-from_exprs-loop-expression l =
    once_after l.names.items (free (scope_of l.scope) t.exprs (v.of_exprs (drop l.expression-index l.list)))
    ≡ once_after l.initial.names.items (free (scope_of l.scope) t.exprs (v.of_exprs l.list))

abbrev pub invariant-from_fields-loop-value : goal.invariant-from_fields-loop-value
invariant-from_fields-loop-value l =
    once_after l.names.items (free (scope_of l.scope) t.fields (v.of_fields (drop l.value-index l.fields)))
    ≡ once_after l.initial.names.items (free (scope_of l.scope) t.fields (v.of_fields l.fields))

abbrev pub invariant-from_stmts-loop-statement : goal.invariant-from_stmts-loop-statement
invariant-from_stmts-loop-statement l =
    once_after l.names.items (free (scope_of l.scope) t.stmts (v.of_stmts (drop l.statement-index l.list)))
    ≡ once_after l.initial.names.items (free (scope_of l.scope) t.stmts (v.of_stmts l.list))

abbrev pub invariant-from_items-loop-item : goal.invariant-from_items-loop-item
invariant-from_items-loop-item l =
    once_after l.names.items (free (scope_of l.scope) t.items (v.of_items (drop l.item-index l.items)))
    ≡ once_after l.initial.names.items (free (scope_of l.scope) t.items (v.of_items l.items))

abbrev pub invariant-from_cases-loop-case : goal.invariant-from_cases-loop-case
invariant-from_cases-loop-case l =
    once_after l.names.items (free (scope_of l.scope) t.cases (v.of_cases (drop l.case-index l.cases)))
    ≡ once_after l.initial.names.items (free (scope_of l.scope) t.cases (v.of_cases l.cases))
