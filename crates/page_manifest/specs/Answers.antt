-- How answers stand to what is defined.
use Rattle.std.specs.Prelude.{◌≡◌, Result, Ok, Err}
use Rattle.page_manifest.specs.Faults.{Found}
use Rattle.page_manifest.specs.declared.PageError.{PageError}
use Rattle.page_manifest.specs.declared.PageError.TheVariants.{Fault, Memory}

-- what is defined is found, or the fault that is defined; or memory is wanting
abbrev pub Answers : {A B : Type 0} → (A → B) → Result A PageError → Found B → Type 0
Answers view (Ok a) defined = defined ≡ Ok (view a)
Answers view (Err (Fault n i)) defined = defined ≡ Err (n, i)
Answers view (Err Memory) defined = Unit {0}
