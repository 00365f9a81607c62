use Rattle.std.proofs.Common.{◌≡◌, drop}
use Rattle.std.specs.Prelude.{option_copied}
use Rattle.html_cajoler.proofs.keeping.+keeps.Given as goal
use Rattle.html_cajoler.specs.Views.{whole}
use Rattle.html_grammar.specs.Trees.{Tree, many}
use Rattle.html_kept.specs.Kept.{kept}
use Rattle.html_tree.specs.Views.{trees}
use Rattle.url_rule.specs.Table.{rows_of}
use Rattle.html_urls.specs.Answers.{for_documents}

abbrev pub invariant-keep_all-loop-node : goal.invariant-keep_all-loop-node
invariant-keep_all-loop-node g l =
    let a = for_documents (rows_of l.urls.table.items) (option_copied l.base) in
    (r : Tree many) → whole l.kept (kept a many (trees (drop l.node-index l.nodes)) r) ≡ whole l.initial.kept (kept a many (trees l.nodes) r)
