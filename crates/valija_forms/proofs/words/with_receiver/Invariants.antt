-- The names so far stand before those that are left.
use Rattle.std.proofs.Common.{◌≡◌, ◌∷◌, ◌++◌, map, drop}
use Rattle.es3_tree.specs.PlacedView as source
use Rattle.valija_forms.specs.Forms as forms
use Rattle.valija_forms.proofs.words.with_receiver.Given as goal

abbrev pub invariant-loop-param : goal.invariant-loop-param
invariant-loop-param l =
    source.words l.names.items ++ map (λ x. forms.word x.text) (source.words (drop l.param-index l.params))
    ≡ forms.word forms.receiver_name ∷ map (λ x. forms.word x.text) (source.words l.params)
