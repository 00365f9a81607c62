-- Modules of each form, with how their load ended, the steps that they took, and what was told.
use Rattle.std.proofs.Common.{◌≡◌, [], ◌∷◌, refl}
use Rattle.std.specs.Prelude.{codes, pos}
use Rattle.es3_tokens.specs.Longest.{longest}
use Rattle.es3_tokens.specs.Texts.{body}
use Rattle.es3_tokens.specs.Quick.{quick_from}
use Rattle.es3_grammar.specs.Spots.{look_up}
use Rattle.es3_grammar.specs.Machine.{settle, resume, step, all_of}
use Rattle.es3_grammar.specs.Sums.{run_quickly}
use Rattle.es3_labels.specs.Misplaced.{misplaced}
use Rattle.cajita_names.specs.Declarations.{declarations}
use Rattle.cajita_rules.specs.Faults.{faults_in}
use Rattle.cajita_forms.specs.Arguments.{names_arguments}
use Rattle.scope_rules.specs.Free.{free}
use Rattle.scope_rules.specs.Resolve.{resolved}
use Rattle.rows.specs.Rows.{to_get}
use Rattle.cajita_meaning.specs.World.{made_name, undefined, number}
use Rattle.cajita_meaning.specs.Doing.{text_within}
use Rattle.cajita_meaning.specs.Direct.{gave, made, touched}
use Rattle.cajita_shown.specs.Shown.{came, shown}

empty_source : shown (codes "") 10 ≡ came (gave undefined) 1 []
unfolding quick_from longest body look_up settle resume step all_of run_quickly misplaced declarations faults_in names_arguments free resolved
empty_source = refl

pub record_read : shown (codes "var o = {x: 1}; o.x + 2;") 20 ≡ came (gave (number (pos 3))) 10 (made 0 (made_name 0 0) ∷ touched 0 to_get (made_name 0 0) (codes "x" ∷ []) ∷ [])
unfolding quick_from longest body look_up settle resume step all_of run_quickly misplaced declarations faults_in names_arguments free resolved text_within
record_read = refl
