-- Errors and `instanceof`.
use Rattle.std.proofs.Common.{◌≡◌, [], ◌∷◌, refl}
use Rattle.std.specs.Prelude.{codes, true, false}
use Rattle.std.specs.Fmt.{digits}
use Rattle.caja_units.specs.Index.{array_index}
use Rattle.es3_tokens.specs.Longest.{longest}
use Rattle.es3_tokens.specs.Texts.{body}
use Rattle.es3_tokens.specs.Quick.{quick_from}
use Rattle.es3_grammar.specs.Spots.{look_up}
use Rattle.es3_grammar.specs.Machine.{settle, resume, step, all_of}
use Rattle.es3_grammar.specs.Sums.{run_quickly}
use Rattle.es3_labels.specs.Misplaced.{misplaced}
use Rattle.cajita_names.specs.Declarations.{declarations}
use Rattle.cajita_rules.specs.Faults.{faults_in}
use Rattle.cajita_forms.specs.Arguments.{names_arguments}
use Rattle.scope_rules.specs.Free.{free}
use Rattle.scope_rules.specs.Resolve.{resolved}
use Rattle.rows.specs.Rows as r
use Rattle.rows.specs.Rows.{to_get, to_new, to_call}
use Rattle.rows.specs.Names.{of_cajita}
use Rattle.cajita_meaning.specs.World.{made_name, built_name, tools_name, truth, text}
use Rattle.cajita_meaning.specs.Doing.{text_within}
use Rattle.cajita_meaning.specs.Direct.{gave, made, got, touched}
use Rattle.cajita_shown.specs.Shown.{came, shown}

each_error_has_its_name : shown (codes "[Error('a').name, new TypeError('b').name, RangeError().name, new Error().message, Error(undefined).message, Error(5).message].join('|');") 40 ≡
    came (gave (text (codes "Error|TypeError|RangeError|||5"))) 38 (touched 0 to_call (built_name (r.makes r.error)) [] ∷ made 0 (made_name 0 0) ∷
    touched 0 to_get (made_name 0 0) (codes "name" ∷ []) ∷ touched 0 to_new (built_name (r.makes r.type_error)) [] ∷ made 0 (made_name 0 1) ∷
    touched 0 to_get (made_name 0 1) (codes "name" ∷ []) ∷ touched 0 to_call (built_name (r.makes r.range_error)) [] ∷ made 0 (made_name 0 2) ∷
    touched 0 to_get (made_name 0 2) (codes "name" ∷ []) ∷ touched 0 to_new (built_name (r.makes r.error)) [] ∷ made 0 (made_name 0 3) ∷
    touched 0 to_get (made_name 0 3) (codes "message" ∷ []) ∷ touched 0 to_call (built_name (r.makes r.error)) [] ∷ made 0 (made_name 0 4) ∷
    touched 0 to_get (made_name 0 4) (codes "message" ∷ []) ∷ touched 0 to_call (built_name (r.makes r.error)) [] ∷ made 0 (made_name 0 5) ∷
    touched 0 to_get (made_name 0 5) (codes "message" ∷ []) ∷ made 0 (made_name 0 6) ∷ touched 0 to_get (made_name 0 6) (codes "join" ∷ []) ∷
    got 0 (made_name 0 6) (built_name r.join) ∷ touched 0 to_call (built_name r.join) [] ∷ [])
unfolding quick_from longest body look_up settle resume step all_of run_quickly misplaced declarations faults_in names_arguments free resolved text_within digits array_index
each_error_has_its_name = refl

an_error_is_frozen_and_an_object : shown (codes "var e = Error('x'); [cajita.isFrozen(e), cajita.isRecord(e), typeof e, e + ''].join();") 30 ≡
    came (gave (text (codes "true,false,object,[object Object]"))) 26 (touched 0 to_call (built_name (r.makes r.error)) [] ∷ made 0 (made_name 0 0) ∷
    touched 0 to_get (tools_name of_cajita) (codes "isFrozen" ∷ []) ∷ got 0 (tools_name of_cajita) (built_name r.is_frozen) ∷
    touched 0 to_call (built_name r.is_frozen) [] ∷ touched 0 to_get (tools_name of_cajita) (codes "isRecord" ∷ []) ∷
    got 0 (tools_name of_cajita) (built_name r.is_record) ∷ touched 0 to_call (built_name r.is_record) [] ∷ made 0 (made_name 0 1) ∷
    touched 0 to_get (made_name 0 1) (codes "join" ∷ []) ∷ got 0 (made_name 0 1) (built_name r.join) ∷ touched 0 to_call (built_name r.join) [] ∷ [])
unfolding quick_from longest body look_up settle resume step all_of run_quickly misplaced declarations faults_in names_arguments free resolved text_within digits array_index
an_error_is_frozen_and_an_object = refl

an_error_of_the_language_is_a_TypeError : shown (codes "var r; try { null.x; } catch (e) { r = [e instanceof TypeError, e instanceof Error, e instanceof RangeError, e.name]; } r.join();") 30 ≡
    came (gave (text (codes "true,true,false,TypeError"))) 28 (made 0 (made_name 0 0) ∷ touched 0 to_get (made_name 0 0) (codes "name" ∷ []) ∷
    made 0 (made_name 0 1) ∷ touched 0 to_get (made_name 0 1) (codes "join" ∷ []) ∷ got 0 (made_name 0 1) (built_name r.join) ∷
    touched 0 to_call (built_name r.join) [] ∷ [])
unfolding quick_from longest body look_up settle resume step all_of run_quickly misplaced declarations faults_in names_arguments free resolved text_within digits array_index
an_error_of_the_language_is_a_TypeError = refl

instance_of_a_plain_function : shown (codes "function f() { } Error('x') instanceof f;") 20 ≡
    came (gave (truth false)) 10 (made 0 (made_name 0 0) ∷ touched 0 to_call (built_name (r.makes r.error)) [] ∷ made 0 (made_name 0 1) ∷ [])
unfolding quick_from longest body look_up settle resume step all_of run_quickly misplaced declarations faults_in names_arguments free resolved text_within
instance_of_a_plain_function = refl

a_record_is_no_error : shown (codes "({name: 'Error'}) instanceof Error;") 10 ≡
    came (gave (truth false)) 7 (made 0 (made_name 0 0) ∷ [])
unfolding quick_from longest body look_up settle resume step all_of run_quickly misplaced declarations faults_in names_arguments free resolved
a_record_is_no_error = refl

an_error_with_a_record_as_its_message : shown (codes "new Error({}).message;") 10 ≡
    came (gave (text (codes "[object Object]"))) 8 (made 0 (made_name 0 0) ∷ touched 0 to_new (built_name (r.makes r.error)) [] ∷ made 0 (made_name 0 1) ∷
    touched 0 to_get (made_name 0 1) (codes "message" ∷ []) ∷ [])
unfolding quick_from longest body look_up settle resume step all_of run_quickly misplaced declarations faults_in names_arguments free resolved text_within
an_error_with_a_record_as_its_message = refl

a_thrown_error_is_not_wrapped : shown (codes "var e = Error('a'), r; try { throw e; } catch (x) { r = x; } r === e;") 20 ≡
    came (gave (truth true)) 19 (touched 0 to_call (built_name (r.makes r.error)) [] ∷ made 0 (made_name 0 0) ∷ [])
unfolding quick_from longest body look_up settle resume step all_of run_quickly misplaced declarations faults_in names_arguments free resolved text_within
a_thrown_error_is_not_wrapped = refl

messages_are_texts : shown (codes "TypeError({}).message + new TypeError(null).message + RangeError([1, [2]]).message;") 30 ≡
    came (gave (text (codes "[object Object]null1,2"))) 24 (made 0 (made_name 0 0) ∷ touched 0 to_call (built_name (r.makes r.type_error)) [] ∷
    made 0 (made_name 0 1) ∷ touched 0 to_get (made_name 0 1) (codes "message" ∷ []) ∷ touched 0 to_new (built_name (r.makes r.type_error)) [] ∷
    made 0 (made_name 0 2) ∷ touched 0 to_get (made_name 0 2) (codes "message" ∷ []) ∷ made 0 (made_name 0 3) ∷ made 0 (made_name 0 4) ∷
    touched 0 to_call (built_name (r.makes r.range_error)) [] ∷ made 0 (made_name 0 5) ∷ touched 0 to_get (made_name 0 5) (codes "message" ∷ []) ∷ [])
unfolding quick_from longest body look_up settle resume step all_of run_quickly misplaced declarations faults_in names_arguments free resolved text_within digits
messages_are_texts = refl
