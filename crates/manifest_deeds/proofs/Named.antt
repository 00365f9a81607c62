-- The names of modules, as a manifest tells of them.
use Rattle.std.proofs.Common.{◌≡◌, List, [], ◌∷◌, map, refl, ap}
use Rattle.page_manifest.specs.View.{module_spec}
use Rattle.page_manifest.specs.declared.ModuleSpec.{ModuleSpec}

pub told_names : (ms : List ModuleSpec) → map (λ m. m.name) (map module_spec ms) ≡ map (λ m. m.name) ms
told_names [] = refl
told_names (m ∷ ms) = ap (λ l. m.name ∷ l) (told_names ms)
