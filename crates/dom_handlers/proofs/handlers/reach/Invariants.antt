use Rattle.std.proofs.Common.{◌≡◌, ℕ, ◌-◌, length}
use Rattle.dom_handlers.specs.Kept.{places_of}
use Rattle.dom_handlers.proofs.handlers.reach.Given as goal

abbrev pub invariant-reach : goal.invariant-reach
invariant-reach l = record { same : (n : ℕ) → places_of (λ ps. ps.items) l.places.items n ≡ places_of (λ ps. ps.items) l.initial.places.items n }

abbrev pub decreases-reach : goal.decreases-reach
decreases-reach l = l.count - length l.places.items
