use Rattle.std.proofs.Common.{List, ◌++◌, sym, ap, ◌∙◌}
use Rattle.html_cajoler.proofs.Nodes.{element_written}
use Rattle.html_cajoler.proofs.Oks.{ok_then}
use Rattle.html_cajoler.proofs.printing.+prints.Goals as goal
use Rattle.html_grammar.specs.Trees.{one, many}
use Rattle.html_kept.specs.Printed.{printed, start_tag}
use Rattle.html_tree.proofs.Rows.{view_element}
use Rattle.html_tree.specs.Views.{tree, trees, attrs_of}

pub put_node-returns-in_ok-put_all-in-Element : goal.put_node-returns-in_ok-put_all-in-Element
put_node-returns-in_ok-put_all-in-Element t c =
    let n = c.in-Element.name in
    let is = ap tree c.in-Element.is ∙ view_element c.in-Element.name c.in-Element.attrs c.in-Element.content in
    ok_then c.put_end.result c.put_end.ensures (λ e.
    element_written c.args.out.now.items c.put_start.new.out.items c.put_all.new.out.items c.put_end.new.out.items n (attrs_of c.in-Element.attrs.items) (trees c.in-Element.content.items)
    (c.in_ok-put_start-in-Element.ensures ∙ ap (λ (s : List _). c.args.out.now.items ++ start_tag n (attrs_of s)) c.deref.ensures.value)
    (c.in_ok-put_all-in-Element.ensures ∙ ap (λ (s : List _). c.put_start.new.out.items ++ printed many (trees s)) c.deref-in-Element.ensures.value)
    e (sym c.is_void.ensures ∙ c.if-is_void.false)
    ∙ ap (λ t. c.args.out.now.items ++ printed one t) (sym is))
