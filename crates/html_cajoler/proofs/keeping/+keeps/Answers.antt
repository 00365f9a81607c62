use Rattle.std.proofs.Common.{◌≡◌, ◌+◌, List, drop, sym, ap, ◌∙◌, arith, true, false}
use Rattle.std.specs.Prelude.{option_copied}
use Rattle.html_cajoler.proofs.KeptSoFar.{element_dropped, element_unlisted, element_listed}
use Rattle.html_cajoler.proofs.Nodes.{next_node, no_node}
use Rattle.html_cajoler.proofs.Oks.{ok_then}
use Rattle.html_cajoler.proofs.keeping.+keeps.Goals as goal
use Rattle.html_cajoler.specs.Views.{whole}
use Rattle.html_grammar.specs.Tables.{is_in}
use Rattle.html_grammar.specs.Trees.{one, many, element, more}
use Rattle.html_kept.specs.Kept.{kept, kept_attrs, cleaned}
use Rattle.html_kept.specs.Table.{dropped, listed}
use Rattle.html_tree.proofs.Rows.{view_element}
use Rattle.html_tree.specs.Views.{tree, trees, attrs_of}
use Rattle.html_urls.specs.Answers.{for_documents}
use Rattle.url_rule.specs.Table.{rows_of}

pub keep_all-returns : goal.keep_all-returns
keep_all-returns g t c = λ r.
    let a = for_documents (rows_of c.args.urls.now.table.items) (option_copied c.args.base) in
    sym (ap (λ ts. whole c.loop-node.kept (kept a many ts r)) (no_node c.args.nodes.now c.loop-node.node-index (omega arith))) ∙ c.loop-node.invariant r

pub keep_all-loop-node-preserved : goal.keep_all-loop-node-preserved
keep_all-loop-node-preserved g t c = λ r.
    let a = for_documents (rows_of c.args.urls.now.table.items) (option_copied c.args.base) in
    c.in_ok-keep_node.ensures (kept a many (trees (drop (c.loop-node.node-index + 1) c.args.nodes.now)) r)
    ∙ sym (ap (λ ts. whole c.loop-node.kept (kept a many ts r)) (next_node c.args.nodes.now c.loop-node.node-index c.node-item.result c.loop-node-test.true c.node-item.is)) ∙ c.loop-node.invariant r

pub keep_node-returns-then-stands_in : goal.keep_node-returns-then-stands_in
keep_node-returns-then-stands_in g t c = λ r.
    let a = for_documents (rows_of c.args.urls.now.table.items) (option_copied c.args.base) in
    let is = ap tree c.in-Element.is ∙ view_element c.in-Element.name c.in-Element.attrs c.in-Element.content in
    let d : is_in dropped c.in-Element.name ≡ true = sym c.stands_in.ensures ∙ c.if-stands_in.true in
    sym (ap (whole c.args.kept.now) (ap (λ t. kept a one t r) is ∙ element_dropped a c.in-Element.name (attrs_of c.in-Element.attrs.items) (trees c.in-Element.content.items) r d))

pub keep_node-returns-then-not-is_listed : goal.keep_node-returns-then-not-is_listed
keep_node-returns-then-not-is_listed g t c =
    let a = for_documents (rows_of c.args.urls.now.table.items) (option_copied c.args.base) in
    let is = ap tree c.in-Element.is ∙ view_element c.in-Element.name c.in-Element.attrs c.in-Element.content in
    let d : is_in dropped c.in-Element.name ≡ false = sym c.stands_in.ensures ∙ c.if-stands_in.false in
    let l : is_in listed c.in-Element.name ≡ false = sym c.is_listed.ensures ∙ c.if-not-is_listed.true in
    ok_then c.keep_all.result c.keep_all.ensures (λ e r.
    e r ∙ ap (λ (s : List _). whole c.args.kept.now (kept a many (trees s) r)) c.deref.ensures.value
    ∙ sym (ap (whole c.args.kept.now) (ap (λ t. kept a one t r) is ∙ element_unlisted a c.in-Element.name (attrs_of c.in-Element.attrs.items) (trees c.in-Element.content.items) r d l)))

pub keep_node-returns-in_ok-attrs-in-Element : goal.keep_node-returns-in_ok-attrs-in-Element
keep_node-returns-in_ok-attrs-in-Element g t c =
    let a = for_documents (rows_of c.args.urls.now.table.items) (option_copied c.args.base) in
    let is = ap tree c.in-Element.is ∙ view_element c.in-Element.name c.in-Element.attrs c.in-Element.content in
    let d : is_in dropped c.in-Element.name ≡ false = sym c.stands_in.ensures ∙ c.if-stands_in.false in
    let l : is_in listed c.in-Element.name ≡ true = sym c.is_listed.ensures ∙ c.if-not-is_listed.false in
    let n = c.in-Element.name in
    ok_then c.push_element.result c.push_element.ensures (λ e r.
    e r ∙ ap (λ (xs : List _). whole c.args.kept.now (more (element n xs (trees c.in_ok-content-in-Element.content.items)) r)) (c.in_ok-attrs-in-Element.ensures ∙ ap (λ (s : List _). kept_attrs a n (attrs_of s)) c.deref-in-Element-2.ensures.value)
    ∙ ap (λ ts. whole c.args.kept.now (more (element n (kept_attrs a n (attrs_of c.in-Element.attrs.items)) ts) r)) (c.in_ok-content-in-Element.ensures ∙ ap (λ (s : List _). cleaned a (trees s)) c.deref-in-Element.ensures.value)
    ∙ sym (ap (whole c.args.kept.now) (ap (λ t. kept a one t r) is ∙ element_listed a n (attrs_of c.in-Element.attrs.items) (trees c.in-Element.content.items) r d l)))
