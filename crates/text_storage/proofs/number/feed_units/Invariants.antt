use Rattle.std.proofs.Common.{◌≡◌, fold}
use Rattle.text_storage.specs.Number.{words}
use Rattle.text_storage.proofs.number.feed_units.Given as goal

abbrev pub invariant-loop-n : goal.invariant-loop-n
invariant-loop-n g l = l.state ≡ fold g.H.Hasher.write l.initial.state (words l.n l.units)
