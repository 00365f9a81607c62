-- What is rewritten stands before what is left, and the number of the first free temporary goes on.
use Rattle.std.proofs.Common.{true, drop}
use Rattle.cajita_tree.specs.Tree as source
use Rattle.cajita_tree.specs.View as view
use Rattle.cajita_rewrite.specs.Rewrite.{rewritten, temps}
use Rattle.cajita_rewrite.proofs.Front.{Walked, statement}
use Rattle.cajita_rewrite.proofs.load.rewrite_list.Given as goal

abbrev pub invariant-loop-statement : goal.invariant-loop-statement
invariant-loop-statement l =
    Walked (λ n ss. rewritten true source.stmts n (view.of_stmts ss)) (λ ss. temps source.stmts (view.of_stmts ss)) statement l.done.items l.temporaries.taken (drop l.statement-index l.list) l.initial.temporaries.taken l.list
