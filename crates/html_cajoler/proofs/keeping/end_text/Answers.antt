use Rattle.std.proofs.Common.{◌≡◌, length, arith, ap, ◌∙◌}
use Rattle.html_cajoler.proofs.KeptSoFar.{nothing_ended, text_ended}
use Rattle.html_cajoler.proofs.Oks.{ok_then}
use Rattle.html_cajoler.proofs.keeping.end_text.Goals as goal
use Rattle.html_grammar.specs.Trees.{snoc}
use Rattle.html_tree.specs.Views.{trees}

pub returns-then-len-eq0-clause-same : goal.returns-then-len-eq0-clause-same
returns-then-len-eq0-clause-same c = nothing_ended (trees c.args.kept.now.nodes.items) c.args.kept.now.text.items (let e : length c.args.kept.now.text.items ≡ 0 = omega (arith, c.len.ensures, c.if-len-eq0.true) in e)

pub returns-clause-same : goal.returns-clause-same
returns-clause-same c =
    ok_then c.push.result c.push.ensures.pushed (λ e.
    text_ended (trees c.args.kept.now.nodes.items) (trees c.push.new.list.items) c.args.kept.now.text.items c.in_ok-from_units.field-0
    (λ i. c.if-len-eq0.false (let z : c.len.result ≡ 0 = omega (arith, c.len.ensures, i) in z)) (c.in_ok-from_units.ensures ∙ c.deref.ensures.value ∙ ap (λ v. v.items) c.replace-units.ensures.value) (e ∙ ap (snoc (trees c.args.kept.now.nodes.items)) c.text.ensures))
