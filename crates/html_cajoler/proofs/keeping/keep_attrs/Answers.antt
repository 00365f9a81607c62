use Rattle.std.proofs.Common.{◌+◌, ◌++◌, List, drop, sym, ap, ◌∙◌, arith, append-nil}
use Rattle.std.proofs.lemmas.List.{drop_all}
use Rattle.std.specs.Prelude.{option_copied}
use Rattle.html_cajoler.proofs.Attrs.{next_attr}
use Rattle.html_cajoler.proofs.KeptSoFar.{attr_kept}
use Rattle.html_cajoler.proofs.keeping.keep_attrs.Goals as goal
use Rattle.html_grammar.specs.Tags.{Attr}
use Rattle.html_kept.specs.Kept.{kept_attrs}
use Rattle.html_tree.specs.Views.{attr_of, attrs_of}
use Rattle.html_urls.specs.Answers.{for_documents}
use Rattle.url_rule.specs.Table.{rows_of}

pub loop-attr-preserved : goal.loop-attr-preserved
loop-attr-preserved g c =
    let a = for_documents (rows_of c.args.urls.now.table.items) (option_copied c.args.base) in
    attr_kept a c.args.tag.now (attrs_of c.loop-attr.kept.items) (attrs_of c.keep_attr.new.attrs.items) (attr_of c.attr-item.result) c.in_ok-value.value (attrs_of (drop (c.loop-attr.attr-index + 1) c.args.attrs.now)) _
    c.in_ok-keep_attr.ensures c.in_ok-value.ensures
    (ap (λ (l : List Attr). attrs_of c.loop-attr.kept.items ++ kept_attrs a c.args.tag.now l) (sym (next_attr c.args.attrs.now c.loop-attr.attr-index c.attr-item.result c.loop-attr-test.true c.attr-item.is)) ∙ c.loop-attr.invariant)

pub returns : goal.returns
returns g c =
    let a = for_documents (rows_of c.args.urls.now.table.items) (option_copied c.args.base) in
    sym (ap (λ (l : List Attr). attrs_of c.loop-attr.kept.items ++ kept_attrs a c.args.tag.now l) (ap attrs_of (drop_all c.loop-attr.attr-index c.args.attrs.now (omega arith))) ∙ append-nil (attrs_of c.loop-attr.kept.items)) ∙ c.loop-attr.invariant
