-- What is named in a manifest as it was read.
use Rattle.std.proofs.Common.{◌≡◌, ℕ, List, [], ◌∷◌, map, refl, ap}
use Rattle.page_manifest.specs.Bound as spec
use Rattle.page_manifest.specs.NamedView as wanted
use Rattle.page_manifest.specs.declared.named.Wish.{Wish}
use Rattle.page_manifest.specs.declared.named.Told.{Told}

pub named : (ms : List Told) → map (λ m. m.name) ms ≡ spec.names_of (map wanted.told ms)
named [] = refl
named (m ∷ ms) = ap (λ l. m.name ∷ l) (named ms)

pub wished : (ws : List (List ℕ × Wish)) → map (λ w. w.0) (map wanted.named_wish ws) ≡ map (λ w. w.0) ws
wished [] = refl
wished (w ∷ ws) = ap (λ l. w.0 ∷ l) (wished ws)
