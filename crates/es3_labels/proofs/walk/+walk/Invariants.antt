-- The first one so far, and those of what is left.
use Rattle.std.proofs.Common.{◌≡◌, drop, option_map}
use Rattle.es3_tree.specs.Tree as tree
use Rattle.es3_tree.specs.PlacedView as source
use Rattle.es3_labels.specs.Misplaced.{misplaced, earlier, first}
use Rattle.es3_labels.specs.View.{around_of, misplaced_of}
use Rattle.es3_labels.proofs.walk.+walk.Given as goal

abbrev pub invariant-in_exprs-loop-expression : goal.invariant-in_exprs-loop-expression
invariant-in_exprs-loop-expression l =
    earlier (option_map misplaced_of l.found) (first (misplaced (around_of l.around) tree.exprs (source.of_exprs (drop l.expression-index l.list))))
    ≡ first (misplaced (around_of l.around) tree.exprs (source.of_exprs l.list))

abbrev pub invariant-in_fields-loop-value : goal.invariant-in_fields-loop-value
invariant-in_fields-loop-value l =
    earlier (option_map misplaced_of l.found) (first (misplaced (around_of l.around) tree.fields (source.of_fields (drop l.value-index l.fields))))
    ≡ first (misplaced (around_of l.around) tree.fields (source.of_fields l.fields))

abbrev pub invariant-in_stmts-loop-statement : goal.invariant-in_stmts-loop-statement
invariant-in_stmts-loop-statement l =
    earlier (option_map misplaced_of l.found) (first (misplaced (around_of l.around) tree.stmts (source.of_stmts (drop l.statement-index l.list))))
    ≡ first (misplaced (around_of l.around) tree.stmts (source.of_stmts l.list))

abbrev pub invariant-in_items-loop-item : goal.invariant-in_items-loop-item
invariant-in_items-loop-item l =
    earlier (option_map misplaced_of l.found) (first (misplaced (around_of l.around) tree.items (source.of_items (drop l.item-index l.items))))
    ≡ first (misplaced (around_of l.around) tree.items (source.of_items l.items))

abbrev pub invariant-in_cases-loop-case : goal.invariant-in_cases-loop-case
invariant-in_cases-loop-case l =
    earlier (option_map misplaced_of l.found) (first (misplaced (around_of l.around) tree.cases (source.of_cases (drop l.case-index l.cases))))
    ≡ first (misplaced (around_of l.around) tree.cases (source.of_cases l.cases))
