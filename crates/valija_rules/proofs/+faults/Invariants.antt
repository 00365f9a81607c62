-- The first fault so far, and those of what is left.
use Rattle.std.proofs.Common.{◌≡◌, drop, option_map}
use Rattle.es3_tree.specs.Tree as tree
use Rattle.es3_tree.specs.PlacedView as source
use Rattle.valija_rules.specs.Faults.{faults_in}
use Rattle.cajita_rules.specs.Found.{fault_of, first_in, earlier_of}
use Rattle.cajita_names.specs.Views.{scope_of}
use Rattle.valija_rules.proofs.+faults.Given as goal

abbrev pub invariant-faults_of_expressions::in_exprs-loop-expression : goal.invariant-faults_of_expressions::in_exprs-loop-expression
invariant-faults_of_expressions::in_exprs-loop-expression l =
    earlier_of (option_map fault_of l.found) (first_in (faults_in (scope_of l.scope) tree.exprs (source.of_exprs (drop l.expression-index l.list))))
    ≡ first_in (faults_in (scope_of l.scope) tree.exprs (source.of_exprs l.list))

abbrev pub invariant-faults_of_expressions::in_fields-loop-key : goal.invariant-faults_of_expressions::in_fields-loop-key
invariant-faults_of_expressions::in_fields-loop-key l =
    earlier_of (option_map fault_of l.found) (first_in (faults_in (scope_of l.scope) tree.fields (source.of_fields (drop l.key-index l.fields))))
    ≡ first_in (faults_in (scope_of l.scope) tree.fields (source.of_fields l.fields))

abbrev pub invariant-faults_of_statements::in_stmts-loop-statement : goal.invariant-faults_of_statements::in_stmts-loop-statement
invariant-faults_of_statements::in_stmts-loop-statement l =
    earlier_of (option_map fault_of l.found) (first_in (faults_in (scope_of l.scope) tree.stmts (source.of_stmts (drop l.statement-index l.list))))
    ≡ first_in (faults_in (scope_of l.scope) tree.stmts (source.of_stmts l.list))

abbrev pub invariant-faults_of_statements::in_items-loop-item : goal.invariant-faults_of_statements::in_items-loop-item
invariant-faults_of_statements::in_items-loop-item l =
    earlier_of (option_map fault_of l.found) (first_in (faults_in (scope_of l.scope) tree.items (source.of_items (drop l.item-index l.items))))
    ≡ first_in (faults_in (scope_of l.scope) tree.items (source.of_items l.items))

abbrev pub invariant-faults_of_statements::in_cases-loop-case : goal.invariant-faults_of_statements::in_cases-loop-case
invariant-faults_of_statements::in_cases-loop-case l =
    earlier_of (option_map fault_of l.found) (first_in (faults_in (scope_of l.scope) tree.cases (source.of_cases (drop l.case-index l.cases))))
    ≡ first_in (faults_in (scope_of l.scope) tree.cases (source.of_cases l.cases))
