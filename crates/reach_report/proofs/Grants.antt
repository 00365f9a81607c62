-- What modules are granted, where the ids of roots have these numbers.
use Rattle.std.proofs.Common.{ℕ, List, map}
use Rattle.page_deeds.specs.Deeds.{Grants}
use Rattle.page_manifest.specs.declared.ModuleSpec.{ModuleSpec}
use Rattle.page_manifest.specs.Page.{Module}
use Rattle.page_manifest.specs.View.{module_spec}
use Rattle.page_manifest.specs.Deeds.{all_given}
use Rattle.page_roots.specs.Roots.{Roots, number_in}

abbrev pub granted : Roots → List ModuleSpec → List Grants
granted roots ms = map (λ (m : Module). all_given (number_in roots) m.grants) (map module_spec ms)
