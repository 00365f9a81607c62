use Rattle.std.proofs.Common.{◌∙◌}
use Rattle.page_manifest.proofs.Bytes.{keys_left}
use Rattle.page_manifest.proofs.fields.has_only.Goals as goal

pub loop-key-init : goal.loop-key-init
loop-key-init c = keys_left _ c.args.members.now _ (c.into_iter-key-iterator.ensures.into_iter_gives ∙ c.keys-key-items.ensures.rest)
