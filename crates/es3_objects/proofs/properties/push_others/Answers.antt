use Rattle.std.proofs.Common.{◌++◌, ap, ◌∙◌, slice_get, option_to_list}
use Rattle.es3_objects.specs.Held.{listed, names_of}
use Rattle.es3_objects.proofs.Names.{other-named}
use Rattle.es3_objects.proofs.properties.push_others.Goals as goal

pub loop-at-preserved : goal.loop-at-preserved
loop-at-preserved c =
    c.in_ok-push_other.ensures ∙ ap (λ ns. ns ++ names_of (listed (option_to_list (slice_get c.args.others.now c.loop-at.at)))) c.loop-at.invariant
    ∙ other-named c.args.names.now.items c.args.others.now c.loop-at.at
