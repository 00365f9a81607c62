use Rattle.std.proofs.Common.{rules}
use Rattle.std.proofs.lemmas.Option.{unwrap_or-slice_get}
use Rattle.text_storage.proofs.number.unit_of_pieces.Goals as goal

pub returns : goal.returns
returns c = search (rules, unwrap_or-slice_get c.args.text.now c.args.at 0)
