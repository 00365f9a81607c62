use Rattle.std.proofs.Common.{◌≡◌, ◌++◌, drop}
use Rattle.html_cajoler.proofs.printing.+prints.Given as goal
use Rattle.html_grammar.specs.Trees.{many}
use Rattle.html_kept.specs.Printed.{printed}
use Rattle.html_tree.specs.Views.{trees}

abbrev pub invariant-put_all-loop-node : goal.invariant-put_all-loop-node
invariant-put_all-loop-node l = l.out.items ++ printed many (trees (drop l.node-index l.nodes)) ≡ l.initial.out.items ++ printed many (trees l.nodes)
