-- The texts so far stand before those that are left.
use Rattle.std.proofs.Common.{◌≡◌, ◌++◌, drop}
use Rattle.es3_tree.specs.PlacedView as source
use Rattle.cajita_forms.specs.Forms.{texts_of}
use Rattle.cajita_forms.proofs.expr_forms.texts.Given as goal

abbrev pub invariant-loop-name : goal.invariant-loop-name
invariant-loop-name l = l.texts.items ++ texts_of (source.words (drop l.name-index l.names)) ≡ texts_of (source.words l.names)
