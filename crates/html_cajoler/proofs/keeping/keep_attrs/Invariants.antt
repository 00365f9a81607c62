use Rattle.std.proofs.Common.{◌≡◌, ◌++◌, drop}
use Rattle.std.specs.Prelude.{option_copied}
use Rattle.html_tree.specs.Views.{attrs_of}
use Rattle.html_kept.specs.Kept.{kept_attrs}
use Rattle.url_rule.specs.Table.{rows_of}
use Rattle.html_urls.specs.Answers.{for_documents}
use Rattle.html_cajoler.proofs.keeping.keep_attrs.Given as goal

abbrev pub invariant-loop-attr : goal.invariant-loop-attr
invariant-loop-attr g l =
    let a = for_documents (rows_of l.urls.table.items) (option_copied l.base) in
    attrs_of l.kept.items ++ kept_attrs a l.tag (attrs_of (drop l.attr-index l.attrs)) ≡ kept_attrs a l.tag (attrs_of l.attrs)
