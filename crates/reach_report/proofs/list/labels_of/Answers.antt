-- At the start no link was taken; then one more is.
use Rattle.std.proofs.Common.{◌≡◌, map, length, ap, ◌∙◌, arith}
use Rattle.std.proofs.lemmas.List.{length-map, take_at}
use Rattle.reach_report.specs.Links.{joined}
use Rattle.reach_report.proofs.Loops.{relabelled_link, halfway_begins, halfway_steps}
use Rattle.reach_report.proofs.list.labels_of.Goals as goal

pub loop-to-init : goal.loop-to-init
loop-to-init c = halfway_begins c.args.links.now c.args.modules _ _ c.in_ok-ahead.ensures.items c.in_ok-labels.ensures

pub loop-to-preserved : goal.loop-to-preserved
loop-to-preserved c =
    let links = c.relabel_links.ensures ∙ ap (map (relabelled_link c.in-Some.to c.in-Some.from)) c.deref_mut-in-Some.ensures.value in
    let labels = c.relabel.ensures ∙ ap (map (joined c.in-Some.to c.in-Some.from)) c.deref_mut.ensures.value in
    let links_long : length c.relabel_links.new.links ≡ c.pop.new.self.len = omega (arith, ap length c.relabel_links.ensures, length-map c.deref_mut-in-Some.result.now (relabelled_link c.in-Some.to c.in-Some.from), c.deref_mut-in-Some.ensures.len) in
    let labels_long : length c.relabel.new.labels ≡ c.loop-to.labels.len = omega (arith, ap length c.relabel.ensures, length-map c.deref_mut.result.now (joined c.in-Some.to c.in-Some.from), c.deref_mut.ensures.len) in
    halfway_steps c.args.links.now c.args.modules c.loop-to.ahead.items c.pop.new.self.items _ c.loop-to.labels.items _ c.in-Some.to c.in-Some.from c.loop-to.invariant c.in-Some.ensures.items
    (take_at c.relabel.new.labels _ c.loop-to.labels.len labels_long ∙ labels) (take_at c.relabel_links.new.links _ c.pop.new.self.len links_long ∙ links)
