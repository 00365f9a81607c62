use Rattle.std.proofs.Common.{◌≡◌, drop}
use Rattle.html_grammar.specs.Trees.{many}
use Rattle.html_tree.specs.Views.{trees}
use Rattle.doc_tree.specs.Cleaned.{add}
use Rattle.doc_tree.proofs.cleaned.+adds.Given as goal

abbrev pub invariant-add_all-loop-html : goal.invariant-add_all-loop-html
invariant-add_all-loop-html l = add l.ids many (trees (drop l.html-index l.list)) l.parent l.around l.document ≡ add l.ids many (trees l.list) l.parent l.around l.initial.document
