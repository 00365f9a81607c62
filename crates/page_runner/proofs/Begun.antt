-- What a page begins with: nothing was loaded.
use Rattle.std.proofs.Common.{◌≡◌, ℕ, zero, suc, List, refl, replicate}
use Rattle.std.proofs.Math.Path.{fun_ext}
use Rattle.es3_objects.specs.declared.value.Value.{Value}
use Rattle.es3_objects.specs.declared.value.Value.TheVariants.{Undefined}
use Rattle.page_runner.specs.Page.{no_results}
use Rattle.page_runner.specs.Runner.{results_of}

pub nothing_there : (n m : ℕ) → results_of (replicate n Undefined) m ≡ Undefined
nothing_there zero m = refl
nothing_there (suc n) zero = refl
nothing_there (suc n) (suc m) = nothing_there n m

pub nothing_loaded : (vs : List Value) → ((m : ℕ) → results_of vs m ≡ Undefined) → results_of vs ≡ no_results
nothing_loaded vs none = fun_ext none
