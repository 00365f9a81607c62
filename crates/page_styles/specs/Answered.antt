-- What is answered for the sheets of a page.
use Rattle.std.specs.Prelude.{◌≡◌, ℕ, List, Result, Ok, Err}
use Rattle.page_manifest.specs.Faults.{Found}
use Rattle.page_styles.specs.Sheets.{IsRefused}
use Rattle.page_styles.specs.declared.StyleError.{StyleError}
use Rattle.page_styles.specs.declared.StyleError.TheVariants.{Css, Memory}

-- the error tells what refuses the bytes, unless memory is wanting
abbrev pub Refuses : StyleError → List ℕ → Type 0
Refuses (Css number at) bytes = IsRefused bytes number at
Refuses Memory bytes = Unit {0}

-- what is defined is answered, or the refusal that is defined; or memory is wanting
abbrev pub Answers : {A B : Type 0} → (A → B) → Result A StyleError → Found B → Type 0
Answers view (Ok a) defined = defined ≡ Ok (view a)
Answers view (Err (Css n i)) defined = defined ≡ Err (n, i)
Answers view (Err Memory) defined = Unit {0}
