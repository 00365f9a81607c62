use Rattle.std.proofs.Common.{◌≡◌, ◌+◌, drop}
use Rattle.rows.specs.Texts.{begins_with}
use Rattle.builtin_string.proofs.places.begins_at.Given as goal

-- the text begins with the part there where the units behind those that were compared do
abbrev pub invariant-loop-at : goal.invariant-loop-at
invariant-loop-at l = begins_with l.part (drop l.place l.text) ≡ begins_with (drop l.at l.part) (drop (l.place + l.at) l.text)
