-- One place more is passed.
use Rattle.std.proofs.Common.{◌<◌, length, ap, ◌∙◌, arith}
use Rattle.std.proofs.lemmas.List.{get_or_default}
use Rattle.reach_report.specs.Links.{same_node}
use Rattle.reach_report.proofs.Loops.{places_grow, places_stay}
use Rattle.reach_report.proofs.list.places_of.Goals as goal
use Rattle.reach_report.proofs.list.places_of.Goals.{then-is_same+in_ok-push, else-is_same}

pub loop-n-preserved : goal.loop-n-preserved
loop-n-preserved c =
    let within : c.loop-n.n < length c.args.labels.now = omega arith in
    let tested = c.is_same.ensures ∙ ap (λ x. same_node x c.args.label) (get_or_default c.args.labels.now c.loop-n.n _ c.args.label within) in
    elim c.if-is_same.branch [
      | then-is_same+in_ok-push w ↦ places_grow c.args.labels.now c.args.label c.loop-n.n _ _ c.is_same.result c.loop-n.invariant tested w.if-is_same.true (ap (λ p. p.items) w.places-is ∙ w.in_ok-push.ensures.items)
      | else-is_same w ↦ places_stay c.args.labels.now c.args.label c.loop-n.n _ _ c.is_same.result c.loop-n.invariant tested w.if-is_same.false (ap (λ p. p.items) w.places-is)
    ]
