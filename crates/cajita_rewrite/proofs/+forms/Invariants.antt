-- What is rewritten stands before what is left, and the number of the first free temporary goes on.
use Rattle.std.proofs.Common.{false, drop}
use Rattle.cajita_tree.specs.Tree as tree
use Rattle.cajita_tree.specs.View as source
use Rattle.cajita_rewrite.specs.Rewrite.{rewritten, temps}
use Rattle.cajita_rewrite.proofs.Front as front
use Rattle.cajita_rewrite.proofs.Front.{Walked}
use Rattle.cajita_rewrite.proofs.+forms.Given as goal

abbrev pub invariant-expressions::rewrite_exprs-loop-e : goal.invariant-expressions::rewrite_exprs-loop-e
invariant-expressions::rewrite_exprs-loop-e l =
    Walked (λ n es. rewritten false tree.exprs n (source.of_exprs es)) (λ es. temps tree.exprs (source.of_exprs es)) front.expression l.done.items l.temporaries.taken (drop l.e-index l.list) l.initial.temporaries.taken l.list

abbrev pub invariant-expressions::rewrite_fields-loop-key : goal.invariant-expressions::rewrite_fields-loop-key
invariant-expressions::rewrite_fields-loop-key l =
    Walked (λ n fs. rewritten false tree.fields n (source.of_fields fs)) (λ fs. temps tree.fields (source.of_fields fs)) front.expression l.pairs.items l.temporaries.taken (drop l.key-index l.fields) l.initial.temporaries.taken l.fields

abbrev pub invariant-statements::rewrite_items-loop-item : goal.invariant-statements::rewrite_items-loop-item
invariant-statements::rewrite_items-loop-item l =
    Walked (λ n is. rewritten false tree.items n (source.of_items is)) (λ is. temps tree.items (source.of_items is)) front.item l.done.items l.temporaries.taken (drop l.item-index l.items) l.initial.temporaries.taken l.items

abbrev pub invariant-statements::rewrite_cases-loop-case : goal.invariant-statements::rewrite_cases-loop-case
invariant-statements::rewrite_cases-loop-case l =
    Walked (λ n cs. rewritten false tree.cases n (source.of_cases cs)) (λ cs. temps tree.cases (source.of_cases cs)) front.clause l.done.items l.temporaries.taken (drop l.case-index l.cases) l.initial.temporaries.taken l.cases

abbrev pub invariant-statements::rewrite_stmts-loop-statement : goal.invariant-statements::rewrite_stmts-loop-statement
invariant-statements::rewrite_stmts-loop-statement l =
    Walked (λ n ss. rewritten false tree.stmts n (source.of_stmts ss)) (λ ss. temps tree.stmts (source.of_stmts ss)) front.statement l.done.items l.temporaries.taken (drop l.statement-index l.list) l.initial.temporaries.taken l.list

abbrev pub invariant-functions::rewrite_functions-loop-function : goal.invariant-functions::rewrite_functions-loop-function
invariant-functions::rewrite_functions-loop-function l =
    Walked (λ _ fs. rewritten false tree.funcs 0 (source.of_funcs fs)) (λ _. 0) front.statement l.done.items 0 (drop l.function-index l.functions) 0 l.functions
