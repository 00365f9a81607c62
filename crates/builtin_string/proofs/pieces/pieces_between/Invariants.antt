use Rattle.std.proofs.Common.{◌≡◌, ◌≤◌, ◌-◌, ◌++◌, [], length, drop, map}
use Rattle.es3_objects.specs.declared.value.Value.TheVariants as v
use Rattle.rows.specs.Texts.{pieces}
use Rattle.builtin_string.proofs.pieces.pieces_between.Given as goal

-- the pieces so far, and those of what is left, are all of them
abbrev pub invariant-loop-place : goal.invariant-loop-place
invariant-loop-place l = record {
  within : l.from ≤ length l.text;
  pieces : l.pieces.items ++ map v.Text (pieces l.separator 0 [] (drop l.from l.text)) ≡ map v.Text (pieces l.separator 0 [] l.text);
}

abbrev pub decreases-loop-place : goal.decreases-loop-place
decreases-loop-place l = length l.text - l.from
