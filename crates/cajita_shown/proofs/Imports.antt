-- What a module may import without a grant.
use Rattle.std.proofs.Common.{◌≡◌, ℕ, refl}
use Rattle.std.specs.Prelude.{map}
use Rattle.cajita_names.specs.Rules.{fixed_names}
use Rattle.cajita_meaning.specs.Imports.{fixed_imports}

pub fixed_names_are_imported : (m : ℕ) → map (λ p. p.0) (fixed_imports m) ≡ fixed_names
fixed_names_are_imported m = refl
