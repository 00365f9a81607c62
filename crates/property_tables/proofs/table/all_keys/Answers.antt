use Rattle.std.proofs.Common.{◌++◌, ap, ◌∙◌, option_to_list, slice_get}
use Rattle.std.specs.Map.{keys_of}
use Rattle.property_tables.proofs.Entries.{next-key}
use Rattle.property_tables.proofs.table.all_keys.Goals as goal

pub loop-at-preserved : goal.loop-at-preserved
loop-at-preserved g c =
    c.in_ok-push_key.ensures ∙ ap (λ ks. ks ++ keys_of (option_to_list (slice_get c.args.table.now c.loop-at.at))) c.loop-at.invariant ∙ next-key c.args.table.now c.loop-at.at
