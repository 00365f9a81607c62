use Rattle.std.proofs.Common.{◌≡◌, [], take, map}
use Rattle.es3_objects.specs.declared.value.Value.TheVariants as v
use Rattle.rows.specs.Texts.{split_by}
use Rattle.builtin_string.proofs.pieces.single_units.Given as goal

-- the units so far
abbrev pub invariant-loop-at : goal.invariant-loop-at
invariant-loop-at l = l.pieces.items ≡ map v.Text (split_by [] (take l.at l.text))
