-- What is lowered stands before what is left, and the number of the first free temporary goes on.
use Rattle.std.proofs.Common.{drop}
use Rattle.es3_tree.specs.Tree as tree
use Rattle.es3_tree.specs.PlacedView as source
use Rattle.cajita_names.specs.Views.{scope_of}
use Rattle.valija_parts.specs.Lower.{lowered, functions_before}
use Rattle.valija_lower.proofs.Front as front
use Rattle.valija_lower.proofs.Front.{Walked}
use Rattle.valija_lower.proofs.+lower.Given as goal

abbrev pub invariant-expressions::lower_exprs-loop-e : goal.invariant-expressions::lower_exprs-loop-e
invariant-expressions::lower_exprs-loop-e l =
    Walked (λ x. lowered (scope_of l.scope) tree.exprs (source.of_exprs x)) front.expression l.done.items l.temporaries.taken (drop l.e-index l.list) l.fn.temporaries.taken l.list

abbrev pub invariant-expressions::lower_fields-loop-key : goal.invariant-expressions::lower_fields-loop-key
invariant-expressions::lower_fields-loop-key l =
    Walked (λ x. lowered (scope_of l.scope) tree.fields (source.of_fields x)) front.field l.done.items l.temporaries.taken (drop l.key-index l.fields) l.fn.temporaries.taken l.fields

abbrev pub invariant-statements::lower_stmts-loop-statement : goal.invariant-statements::lower_stmts-loop-statement
invariant-statements::lower_stmts-loop-statement l =
    Walked (λ x. lowered (scope_of l.scope) tree.stmts (source.of_stmts x)) front.statement l.done.items l.temporaries.taken (drop l.statement-index l.list) l.fn.temporaries.taken l.list

abbrev pub invariant-statements::lower_items-loop-item : goal.invariant-statements::lower_items-loop-item
invariant-statements::lower_items-loop-item l =
    Walked (λ x. lowered (scope_of l.scope) tree.items (source.of_items x)) front.item l.done.items l.temporaries.taken (drop l.item-index l.items) l.fn.temporaries.taken l.items

abbrev pub invariant-statements::lower_cases-loop-case : goal.invariant-statements::lower_cases-loop-case
invariant-statements::lower_cases-loop-case l =
    Walked (λ x. lowered (scope_of l.scope) tree.cases (source.of_cases x)) front.clause l.done.items l.temporaries.taken (drop l.case-index l.cases) l.fn.temporaries.taken l.cases

abbrev pub invariant-bodies::lower_functions-loop-statement : goal.invariant-bodies::lower_functions-loop-statement
invariant-bodies::lower_functions-loop-statement l = Walked (λ x n. (functions_before (scope_of l.scope) (source.of_stmts x), n)) front.statement l.done.items 0 (drop l.statement-index l.list) 0 l.list
