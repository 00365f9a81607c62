-- How many calls may be open: a function is called where all but a few of them are.
use Rattle.std.proofs.Common.{◌≡◌, [], ◌∷◌, List, refl}
use Rattle.std.specs.Prelude.{ℕ, codes, pos}
use Rattle.std.specs.Fmt.{digits}
use Rattle.plans.specs.Plans.{depth_fault}
use Rattle.caja_units.specs.Index.{array_index}
use Rattle.es3_tokens.specs.Longest.{longest}
use Rattle.es3_tokens.specs.Texts.{body as text_body}
use Rattle.es3_tokens.specs.Quick.{quick_from}
use Rattle.es3_grammar.specs.Spots.{look_up}
use Rattle.es3_grammar.specs.Machine.{settle, resume, step, all_of}
use Rattle.es3_grammar.specs.Sums.{run_quickly}
use Rattle.es3_labels.specs.Misplaced.{misplaced}
use Rattle.cajita_names.specs.Declarations.{declarations}
use Rattle.cajita_rules.specs.Faults.{faults_in}
use Rattle.cajita_forms.specs.Arguments.{names_arguments}
use Rattle.scope_rules.specs.Free.{free}
use Rattle.scope_rules.specs.Resolve.{resolved}
use Rattle.rows.specs.Rows as r
use Rattle.rows.specs.Rows.{to_get, to_call}
use Rattle.cajita_meaning.specs.World.{made_name, own_name, built_name, number, text, Value, World}
use Rattle.acts.specs.Acts.{fault}
use Rattle.cajita_tree.specs.Tree as c
use Rattle.cajita_meaning.specs.Asking.{entry_reply}
use Rattle.cajita_meaning.specs.Doing.{text_within}
use Rattle.cajita_meaning.specs.Direct.{gave, made, got, touched, said}
use Rattle.cajita_shown.specs.Shown.{came, faulted, shown_call}

pub a_thousand_calls_may_be_open : shown_call (codes "function f(n) { return n === 0 ? 0 : f(n - 1); } f;") 990 (number (pos 9) ∷ []) 110 ≡
    came (gave (number (pos 0))) 107 (touched 0 to_call (made_name 0 0) [] ∷ touched 0 to_call (made_name 0 0) [] ∷ touched 0 to_call (made_name 0 0) [] ∷
    touched 0 to_call (made_name 0 0) [] ∷ touched 0 to_call (made_name 0 0) [] ∷ touched 0 to_call (made_name 0 0) [] ∷
    touched 0 to_call (made_name 0 0) [] ∷ touched 0 to_call (made_name 0 0) [] ∷ touched 0 to_call (made_name 0 0) [] ∷
    touched 0 to_call (made_name 0 0) [] ∷ [])
unfolding quick_from longest text_body look_up settle resume step all_of run_quickly misplaced declarations faults_in names_arguments free resolved
a_thousand_calls_may_be_open = refl

pub one_call_more_is_a_fault : shown_call (codes "function f(n) { return n === 0 ? 0 : f(n - 1); } f;") 990 (number (pos 10) ∷ []) 120 ≡
    faulted depth_fault 111 (touched 0 to_call (made_name 0 0) [] ∷ touched 0 to_call (made_name 0 0) [] ∷ touched 0 to_call (made_name 0 0) [] ∷
    touched 0 to_call (made_name 0 0) [] ∷ touched 0 to_call (made_name 0 0) [] ∷ touched 0 to_call (made_name 0 0) [] ∷
    touched 0 to_call (made_name 0 0) [] ∷ touched 0 to_call (made_name 0 0) [] ∷ touched 0 to_call (made_name 0 0) [] ∷
    touched 0 to_call (made_name 0 0) [] ∷ touched 0 to_call (made_name 0 0) [] ∷ [])
unfolding quick_from longest text_body look_up settle resume step all_of run_quickly misplaced declarations faults_in names_arguments free resolved
one_call_more_is_a_fault = refl

pub a_depth_fault_is_not_caught : shown_call (codes "(function f(n) { try { return f(n + 1); } catch (e) { say('c'); } finally { say('f'); } });") 997 (number (pos 0) ∷ []) 30 ≡
    faulted depth_fault 25 (touched 0 to_call (made_name 0 0) [] ∷ touched 0 to_call (made_name 0 0) [] ∷ touched 0 to_call (made_name 0 0) [] ∷
    touched 0 to_call (made_name 0 0) [] ∷ [])
unfolding quick_from longest text_body look_up settle resume step all_of run_quickly misplaced declarations faults_in names_arguments free resolved
a_depth_fault_is_not_caught = refl

a_built_in_is_no_open_call : shown_call (codes "(function () { return [1, 2].join(say()); });") 999 [] 20 ≡
    came (gave (text (codes "1,2"))) 10 (touched 0 to_call (made_name 0 0) [] ∷ made 0 (made_name 0 1) ∷ touched 0 to_call (own_name 0 0) [] ∷
    said 0 (codes "undefined") ∷ touched 0 to_get (made_name 0 1) (codes "join" ∷ []) ∷ got 0 (made_name 0 1) (built_name r.join) ∷
    touched 0 to_call (built_name r.join) [] ∷ [])
unfolding quick_from longest text_body look_up settle resume step all_of run_quickly misplaced declarations faults_in names_arguments free resolved text_within digits array_index
a_built_in_is_no_open_call = refl

-- the same of every closure
pub no_call_is_entered_beyond_a_thousand : (f : c.Tree c.func) (chain : List ℕ) (m : ℕ) (vs : List Value) (by : ℕ) (w : World) → entry_reply f chain m vs 1000 by w ≡ fault depth_fault w
no_call_is_entered_beyond_a_thousand (c.fun name params args body) chain m vs by w = refl
