-- What the trees that are left add to the table.
use Rattle.std.proofs.Common.{◌≡◌, drop}
use Rattle.html_grammar.specs.Trees.{many}
use Rattle.html_tree.specs.Views.{trees}
use Rattle.page_binding.specs.Table.{walked}
use Rattle.page_binding.proofs.table.+walks.Given as goal

abbrev pub invariant-walk_all-loop-html : goal.invariant-walk_all-loop-html
invariant-walk_all-loop-html l = walked l.roots many (trees (drop l.html-index l.list)) l.least l.table ≡ walked l.roots many (trees l.list) l.least l.initial.table
