-- What an answer says of the modules of a page.
use Rattle.std.specs.Prelude.{◌≡◌, ℕ, Result, Ok, Err, codes}
use Rattle.es3_tree.specs.View as view
use Rattle.page_cajole.specs.Pages.{Refusal, at_stage, Runnable}
use Rattle.page_cajole.specs.declared.CajoledModule.{CajoledModule}
use Rattle.page_cajole.specs.declared.pages.Stage.{Stage}
use Rattle.page_cajole.specs.declared.pages.Stage.TheVariants.{Lex, Read, Label, Rule, Valija}
use Rattle.page_cajole.specs.declared.pages.CajoleError.{CajoleError}
use Rattle.page_cajole.specs.declared.pages.CajoleError.TheVariants.{Module, Memory}

abbrev pub refusal_of : Stage → Refusal
refusal_of (Lex number at) = at_stage (codes "lex") number at
refusal_of (Read number at) = at_stage (codes "read") number at
refusal_of (Label at) = at_stage (codes "label") 1 at
refusal_of (Rule number at) = at_stage (codes "rule") number at
refusal_of (Valija number at) = at_stage (codes "valija") number at

abbrev pub runnable : CajoledModule → Runnable
runnable m = record { text = m.text.items; program = view.program m.program }

-- what is defined is found, or the refusal that is defined; or memory is wanting
abbrev pub Tells : {A B : Type 0} → (A → B) → Result A CajoleError → Result B (ℕ × Refusal) → Type 0
Tells shown (Ok a) defined = defined ≡ Ok (shown a)
Tells shown (Err (Module i stage)) defined = defined ≡ Err (i, refusal_of stage)
Tells shown (Err Memory) defined = Unit {0}
