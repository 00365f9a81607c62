-- One module more.
use Rattle.std.proofs.Common.{◌++◌, ◌∷◌, [], ap, sym, ◌∙◌, zero-add}
use Rattle.std.proofs.lemmas.List.FromFn.{map-range_with_len_more}
use Rattle.reach_report.specs.declared.Node.TheVariants.{Module}
use Rattle.reach_report.proofs.list.own_labels.Goals as goal

pub loop-m-preserved : goal.loop-m-preserved
loop-m-preserved c =
    c.in_ok-push.ensures.items ∙ ap (λ xs. xs ++ Module c.loop-m.m ∷ []) c.loop-m.invariant ∙ sym (map-range_with_len_more Module 0 c.loop-m.m c.loop-m.m (zero-add c.loop-m.m))
