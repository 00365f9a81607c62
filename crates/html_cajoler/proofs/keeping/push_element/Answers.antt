use Rattle.std.proofs.Common.{List, ℕ, ap, ◌∙◌}
use Rattle.html_cajoler.proofs.KeptSoFar.{element_kept}
use Rattle.html_cajoler.proofs.Oks.{ok_then}
use Rattle.html_cajoler.proofs.keeping.push_element.Goals as goal
use Rattle.html_grammar.specs.Trees.{snoc, element}
use Rattle.html_tree.specs.Views.{trees, attrs_of}

pub returns : goal.returns
returns c =
    let ts = trees c.args.content.items in
    let xs = attrs_of c.args.attrs.items in
    let h = trees c.end_text.new.kept.nodes.items in
    ok_then c.push.result c.push.ensures.pushed (λ e r.
    element_kept (trees c.args.kept.now.nodes.items) h (trees c.push.new.list.items) c.args.kept.now.text.items c.end_text.new.kept.text.items c.args.name.now xs ts r
    c.in_ok-end_text.ensures.same
    (e ∙ ap (snoc h) (c.make_element.ensures ∙ ap (λ (n : List ℕ). element n xs ts) c.in_ok-name.ensures))
    c.in_ok-end_text.ensures.ended)
