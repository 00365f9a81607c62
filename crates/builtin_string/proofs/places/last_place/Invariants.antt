use Rattle.std.proofs.Common.{◌≡◌, ◌≤◌, length, drop, None}
use Rattle.rows.specs.Texts.{last_place}
use Rattle.builtin_string.proofs.places.last_place.Given as goal

-- the part stands nowhere behind
abbrev pub invariant-loop-place : goal.invariant-loop-place
invariant-loop-place l = l.place ≤ length l.text → last_place l.part l.place (drop l.place l.text) ≡ None
