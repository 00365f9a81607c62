use Rattle.text_storage.proofs.Feeding.{words-more}
use Rattle.std.proofs.Common.{rules}
use Rattle.text_storage.proofs.number.feed_units.Goals as goal

pub loop-n-preserved : goal.loop-n-preserved
loop-n-preserved g c = search (rules, words-more g.H.Hasher.write c.args.state.now c.loop-n.state)
