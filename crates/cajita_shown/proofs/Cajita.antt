-- The built-ins of `cajita` and `Math`, the conversions, `say` and `later`.
use Rattle.std.proofs.Common.{◌≡◌, [], ◌∷◌, refl}
use Rattle.std.specs.Prelude.{codes, pos}
use Rattle.std.specs.Fmt.{digits}
use Rattle.caja_units.specs.Index.{array_index}
use Rattle.es3_tokens.specs.Longest.{longest}
use Rattle.es3_tokens.specs.Texts.{body}
use Rattle.es3_tokens.specs.Quick.{quick_from}
use Rattle.es3_grammar.specs.Spots.{look_up}
use Rattle.es3_grammar.specs.Machine.{settle, resume, step, all_of}
use Rattle.es3_grammar.specs.Sums.{run_quickly}
use Rattle.es3_labels.specs.Misplaced.{misplaced}
use Rattle.cajita_names.specs.Declarations.{declarations}
use Rattle.cajita_rules.specs.Faults.{faults_in}
use Rattle.cajita_forms.specs.Arguments.{names_arguments}
use Rattle.scope_rules.specs.Free.{free}
use Rattle.scope_rules.specs.Resolve.{resolved}
use Rattle.rows.specs.Rows as r
use Rattle.rows.specs.Rows.{to_get, to_set, to_delete, to_call}
use Rattle.rows.specs.Names.{of_cajita, of_math}
use Rattle.cajita_meaning.specs.World.{made_name, own_name, built_name, tools_name, undefined, number, text, object}
use Rattle.cajita_meaning.specs.Doing.{text_within}
use Rattle.cajita_meaning.specs.Direct.{gave, threw, made, got, touched, said}
use Rattle.cajita_shown.specs.Shown.{came, shown}

pub a_frozen_record_is_not_written : shown (codes "var o = cajita.freeze({x: 1}); var c = cajita.copy(o); c.x = 2; var t = false; try { o.x = 3; } catch (e) { t = e.message; } [o.x, c.x, o === c, t].join(' ');") 50 ≡
    came (gave (text (codes "1 2 false not writable"))) 44 (made 0 (made_name 0 0) ∷ touched 0 to_get (tools_name of_cajita) (codes "freeze" ∷ []) ∷
    got 0 (tools_name of_cajita) (built_name r.freeze) ∷ touched 0 to_call (built_name r.freeze) [] ∷
    touched 0 to_get (tools_name of_cajita) (codes "copy" ∷ []) ∷ got 0 (tools_name of_cajita) (built_name r.copy) ∷
    touched 0 to_call (built_name r.copy) [] ∷ made 0 (made_name 0 1) ∷ touched 0 to_set (made_name 0 1) (codes "x" ∷ []) ∷
    touched 0 to_set (made_name 0 0) (codes "x" ∷ []) ∷ made 0 (made_name 0 2) ∷ touched 0 to_get (made_name 0 2) (codes "message" ∷ []) ∷
    touched 0 to_get (made_name 0 0) (codes "x" ∷ []) ∷ touched 0 to_get (made_name 0 1) (codes "x" ∷ []) ∷ made 0 (made_name 0 3) ∷
    touched 0 to_get (made_name 0 3) (codes "join" ∷ []) ∷ got 0 (made_name 0 3) (built_name r.join) ∷ touched 0 to_call (built_name r.join) [] ∷ [])
unfolding quick_from longest body look_up settle resume step all_of run_quickly misplaced declarations faults_in names_arguments free resolved text_within digits array_index
a_frozen_record_is_not_written = refl

a_frozen_record_loses_nothing : shown (codes "var o = cajita.freeze({x: 1}); delete o.x;") 20 ≡
    came (threw (object (made_name 0 1))) 12 (made 0 (made_name 0 0) ∷ touched 0 to_get (tools_name of_cajita) (codes "freeze" ∷ []) ∷
    got 0 (tools_name of_cajita) (built_name r.freeze) ∷ touched 0 to_call (built_name r.freeze) [] ∷
    touched 0 to_delete (made_name 0 0) (codes "x" ∷ []) ∷ made 0 (made_name 0 1) ∷ [])
unfolding quick_from longest body look_up settle resume step all_of run_quickly misplaced declarations faults_in names_arguments free resolved text_within
a_frozen_record_loses_nothing = refl

freeze_is_shallow_and_answers_its_argument : shown (codes "var o = {x: {}}; cajita.freeze(o) === o; o.x.y = 1; [cajita.isFrozen(o), cajita.isFrozen(o.x), cajita.freeze(5)].join();") 40 ≡
    came (gave (text (codes "true,false,5"))) 35 (made 0 (made_name 0 0) ∷ made 0 (made_name 0 1) ∷
    touched 0 to_get (tools_name of_cajita) (codes "freeze" ∷ []) ∷ got 0 (tools_name of_cajita) (built_name r.freeze) ∷
    touched 0 to_call (built_name r.freeze) [] ∷ touched 0 to_get (made_name 0 1) (codes "x" ∷ []) ∷ got 0 (made_name 0 1) (made_name 0 0) ∷
    touched 0 to_set (made_name 0 0) (codes "y" ∷ []) ∷ touched 0 to_get (tools_name of_cajita) (codes "isFrozen" ∷ []) ∷
    got 0 (tools_name of_cajita) (built_name r.is_frozen) ∷ touched 0 to_call (built_name r.is_frozen) [] ∷
    touched 0 to_get (made_name 0 1) (codes "x" ∷ []) ∷ got 0 (made_name 0 1) (made_name 0 0) ∷
    touched 0 to_get (tools_name of_cajita) (codes "isFrozen" ∷ []) ∷ got 0 (tools_name of_cajita) (built_name r.is_frozen) ∷
    touched 0 to_call (built_name r.is_frozen) [] ∷ touched 0 to_get (tools_name of_cajita) (codes "freeze" ∷ []) ∷
    got 0 (tools_name of_cajita) (built_name r.freeze) ∷ touched 0 to_call (built_name r.freeze) [] ∷ made 0 (made_name 0 2) ∷
    touched 0 to_get (made_name 0 2) (codes "join" ∷ []) ∷ got 0 (made_name 0 2) (built_name r.join) ∷ touched 0 to_call (built_name r.join) [] ∷ [])
unfolding quick_from longest body look_up settle resume step all_of run_quickly misplaced declarations faults_in names_arguments free resolved text_within digits array_index
freeze_is_shallow_and_answers_its_argument = refl

what_is_frozen : shown (codes "[cajita.isFrozen([]), cajita.isFrozen({}), cajita.isFrozen('a'), cajita.isFrozen(undefined), cajita.isFrozen(say), cajita.isFrozen(cajita)].join();") 40 ≡
    came (gave (text (codes "false,false,true,true,true,true"))) 32 (made 0 (made_name 0 0) ∷
    touched 0 to_get (tools_name of_cajita) (codes "isFrozen" ∷ []) ∷ got 0 (tools_name of_cajita) (built_name r.is_frozen) ∷
    touched 0 to_call (built_name r.is_frozen) [] ∷ made 0 (made_name 0 1) ∷ touched 0 to_get (tools_name of_cajita) (codes "isFrozen" ∷ []) ∷
    got 0 (tools_name of_cajita) (built_name r.is_frozen) ∷ touched 0 to_call (built_name r.is_frozen) [] ∷
    touched 0 to_get (tools_name of_cajita) (codes "isFrozen" ∷ []) ∷ got 0 (tools_name of_cajita) (built_name r.is_frozen) ∷
    touched 0 to_call (built_name r.is_frozen) [] ∷ touched 0 to_get (tools_name of_cajita) (codes "isFrozen" ∷ []) ∷
    got 0 (tools_name of_cajita) (built_name r.is_frozen) ∷ touched 0 to_call (built_name r.is_frozen) [] ∷
    touched 0 to_get (tools_name of_cajita) (codes "isFrozen" ∷ []) ∷ got 0 (tools_name of_cajita) (built_name r.is_frozen) ∷
    touched 0 to_call (built_name r.is_frozen) [] ∷ touched 0 to_get (tools_name of_cajita) (codes "isFrozen" ∷ []) ∷
    got 0 (tools_name of_cajita) (built_name r.is_frozen) ∷ touched 0 to_call (built_name r.is_frozen) [] ∷ made 0 (made_name 0 2) ∷
    touched 0 to_get (made_name 0 2) (codes "join" ∷ []) ∷ got 0 (made_name 0 2) (built_name r.join) ∷ touched 0 to_call (built_name r.join) [] ∷ [])
unfolding quick_from longest body look_up settle resume step all_of run_quickly misplaced declarations faults_in names_arguments free resolved text_within digits array_index
what_is_frozen = refl

copies_and_snapshots : shown (codes "var o = {x: [1]}; var c = cajita.copy(o), s = cajita.snapshot(o); [c.x === o.x, cajita.isFrozen(c), cajita.isFrozen(s), cajita.isFrozen(cajita.copy(s))].join();") 50 ≡
    came (gave (text (codes "true,false,true,false"))) 42 (made 0 (made_name 0 0) ∷ made 0 (made_name 0 1) ∷
    touched 0 to_get (tools_name of_cajita) (codes "copy" ∷ []) ∷ got 0 (tools_name of_cajita) (built_name r.copy) ∷
    touched 0 to_call (built_name r.copy) [] ∷ got 0 (made_name 0 1) (made_name 0 0) ∷ made 0 (made_name 0 2) ∷
    touched 0 to_get (tools_name of_cajita) (codes "snapshot" ∷ []) ∷ got 0 (tools_name of_cajita) (built_name r.snapshot) ∷
    touched 0 to_call (built_name r.snapshot) [] ∷ got 0 (made_name 0 1) (made_name 0 0) ∷ made 0 (made_name 0 3) ∷
    touched 0 to_get (made_name 0 2) (codes "x" ∷ []) ∷ got 0 (made_name 0 2) (made_name 0 0) ∷ touched 0 to_get (made_name 0 1) (codes "x" ∷ []) ∷
    got 0 (made_name 0 1) (made_name 0 0) ∷ touched 0 to_get (tools_name of_cajita) (codes "isFrozen" ∷ []) ∷
    got 0 (tools_name of_cajita) (built_name r.is_frozen) ∷ touched 0 to_call (built_name r.is_frozen) [] ∷
    touched 0 to_get (tools_name of_cajita) (codes "isFrozen" ∷ []) ∷ got 0 (tools_name of_cajita) (built_name r.is_frozen) ∷
    touched 0 to_call (built_name r.is_frozen) [] ∷ touched 0 to_get (tools_name of_cajita) (codes "copy" ∷ []) ∷
    got 0 (tools_name of_cajita) (built_name r.copy) ∷ touched 0 to_call (built_name r.copy) [] ∷ got 0 (made_name 0 3) (made_name 0 0) ∷
    made 0 (made_name 0 4) ∷ touched 0 to_get (tools_name of_cajita) (codes "isFrozen" ∷ []) ∷ got 0 (tools_name of_cajita) (built_name r.is_frozen) ∷
    touched 0 to_call (built_name r.is_frozen) [] ∷ made 0 (made_name 0 5) ∷ touched 0 to_get (made_name 0 5) (codes "join" ∷ []) ∷
    got 0 (made_name 0 5) (built_name r.join) ∷ touched 0 to_call (built_name r.join) [] ∷ [])
unfolding quick_from longest body look_up settle resume step all_of run_quickly misplaced declarations faults_in names_arguments free resolved text_within digits array_index
copies_and_snapshots = refl

a_copy_of_an_array : shown (codes "var a = [{}, 2]; var c = cajita.copy(a); c[0] === a[0] && cajita.isArray(c) && cajita.snapshot(a).length;") 40 ≡
    came (gave (number (pos 2))) 32 (made 0 (made_name 0 0) ∷ made 0 (made_name 0 1) ∷ touched 0 to_get (tools_name of_cajita) (codes "copy" ∷ []) ∷
    got 0 (tools_name of_cajita) (built_name r.copy) ∷ touched 0 to_call (built_name r.copy) [] ∷ got 0 (made_name 0 1) (made_name 0 0) ∷
    made 0 (made_name 0 2) ∷ touched 0 to_get (made_name 0 2) (codes "0" ∷ []) ∷ got 0 (made_name 0 2) (made_name 0 0) ∷
    touched 0 to_get (made_name 0 1) (codes "0" ∷ []) ∷ got 0 (made_name 0 1) (made_name 0 0) ∷
    touched 0 to_get (tools_name of_cajita) (codes "isArray" ∷ []) ∷ got 0 (tools_name of_cajita) (built_name r.is_array) ∷
    touched 0 to_call (built_name r.is_array) [] ∷ touched 0 to_get (tools_name of_cajita) (codes "snapshot" ∷ []) ∷
    got 0 (tools_name of_cajita) (built_name r.snapshot) ∷ touched 0 to_call (built_name r.snapshot) [] ∷ got 0 (made_name 0 1) (made_name 0 0) ∷
    made 0 (made_name 0 3) ∷ touched 0 to_get (made_name 0 3) (codes "length" ∷ []) ∷ [])
unfolding quick_from longest body look_up settle resume step all_of run_quickly misplaced declarations faults_in names_arguments free resolved text_within digits array_index
a_copy_of_an_array = refl

a_function_is_not_copied : shown (codes "cajita.copy(say);") 10 ≡
    came (threw (object (made_name 0 0))) 8 (touched 0 to_get (tools_name of_cajita) (codes "copy" ∷ []) ∷
    got 0 (tools_name of_cajita) (built_name r.copy) ∷ touched 0 to_call (built_name r.copy) [] ∷ made 0 (made_name 0 0) ∷ [])
unfolding quick_from longest body look_up settle resume step all_of run_quickly misplaced declarations faults_in names_arguments free resolved text_within
a_function_is_not_copied = refl

kinds : shown (codes "[cajita.isArray([]), cajita.isArray({}), cajita.isArray(), cajita.isRecord({}), cajita.isRecord([]), cajita.isRecord(Math)].join();") 40 ≡
    came (gave (text (codes "true,false,false,true,false,true"))) 30 (made 0 (made_name 0 0) ∷
    touched 0 to_get (tools_name of_cajita) (codes "isArray" ∷ []) ∷ got 0 (tools_name of_cajita) (built_name r.is_array) ∷
    touched 0 to_call (built_name r.is_array) [] ∷ made 0 (made_name 0 1) ∷ touched 0 to_get (tools_name of_cajita) (codes "isArray" ∷ []) ∷
    got 0 (tools_name of_cajita) (built_name r.is_array) ∷ touched 0 to_call (built_name r.is_array) [] ∷
    touched 0 to_get (tools_name of_cajita) (codes "isArray" ∷ []) ∷ got 0 (tools_name of_cajita) (built_name r.is_array) ∷
    touched 0 to_call (built_name r.is_array) [] ∷ made 0 (made_name 0 2) ∷ touched 0 to_get (tools_name of_cajita) (codes "isRecord" ∷ []) ∷
    got 0 (tools_name of_cajita) (built_name r.is_record) ∷ touched 0 to_call (built_name r.is_record) [] ∷ made 0 (made_name 0 3) ∷
    touched 0 to_get (tools_name of_cajita) (codes "isRecord" ∷ []) ∷ got 0 (tools_name of_cajita) (built_name r.is_record) ∷
    touched 0 to_call (built_name r.is_record) [] ∷ touched 0 to_get (tools_name of_cajita) (codes "isRecord" ∷ []) ∷
    got 0 (tools_name of_cajita) (built_name r.is_record) ∷ touched 0 to_call (built_name r.is_record) [] ∷ made 0 (made_name 0 4) ∷
    touched 0 to_get (made_name 0 4) (codes "join" ∷ []) ∷ got 0 (made_name 0 4) (built_name r.join) ∷ touched 0 to_call (built_name r.join) [] ∷ [])
unfolding quick_from longest body look_up settle resume step all_of run_quickly misplaced declarations faults_in names_arguments free resolved text_within digits array_index
kinds = refl

mathematics : shown (codes "[Math.abs(-3), Math.floor('4'), Math.ceil(5), Math.round(-6), Math.max(1, '7', null), Math.min(2, -1)].join();") 40 ≡
    came (gave (text (codes "3,4,5,-6,7,-1"))) 36 (touched 0 to_get (tools_name of_math) (codes "abs" ∷ []) ∷
    got 0 (tools_name of_math) (built_name r.abs) ∷ touched 0 to_call (built_name r.abs) [] ∷ touched 0 to_get (tools_name of_math) (codes "floor" ∷ []) ∷
    got 0 (tools_name of_math) (built_name r.floor) ∷ touched 0 to_call (built_name r.floor) [] ∷
    touched 0 to_get (tools_name of_math) (codes "ceil" ∷ []) ∷ got 0 (tools_name of_math) (built_name r.ceil) ∷
    touched 0 to_call (built_name r.ceil) [] ∷ touched 0 to_get (tools_name of_math) (codes "round" ∷ []) ∷
    got 0 (tools_name of_math) (built_name r.round) ∷ touched 0 to_call (built_name r.round) [] ∷
    touched 0 to_get (tools_name of_math) (codes "max" ∷ []) ∷ got 0 (tools_name of_math) (built_name r.max) ∷ touched 0 to_call (built_name r.max) [] ∷
    touched 0 to_get (tools_name of_math) (codes "min" ∷ []) ∷ got 0 (tools_name of_math) (built_name r.min) ∷ touched 0 to_call (built_name r.min) [] ∷
    made 0 (made_name 0 0) ∷ touched 0 to_get (made_name 0 0) (codes "join" ∷ []) ∷ got 0 (made_name 0 0) (built_name r.join) ∷
    touched 0 to_call (built_name r.join) [] ∷ [])
unfolding quick_from longest body look_up settle resume step all_of run_quickly misplaced declarations faults_in names_arguments free resolved text_within digits array_index
mathematics = refl

an_argument_that_is_not_taken_is_not_converted : shown (codes "Math.abs(-1, 'a');") 10 ≡
    came (gave (number (pos 1))) 9 (touched 0 to_get (tools_name of_math) (codes "abs" ∷ []) ∷ got 0 (tools_name of_math) (built_name r.abs) ∷
    touched 0 to_call (built_name r.abs) [] ∷ [])
unfolding quick_from longest body look_up settle resume step all_of run_quickly misplaced declarations faults_in names_arguments free resolved text_within
an_argument_that_is_not_taken_is_not_converted = refl

numbers_and_truth_values : shown (codes "[Number('12'), Number(), Number(false), Boolean(''), Boolean('a'), Boolean(), Boolean([])].join();") 40 ≡
    came (gave (text (codes "12,0,0,false,true,false,true"))) 33 (touched 0 to_call (built_name r.number_from) [] ∷
    touched 0 to_call (built_name r.number_from) [] ∷ touched 0 to_call (built_name r.number_from) [] ∷ touched 0 to_call (built_name r.truth_from) [] ∷
    touched 0 to_call (built_name r.truth_from) [] ∷ touched 0 to_call (built_name r.truth_from) [] ∷ made 0 (made_name 0 0) ∷
    touched 0 to_call (built_name r.truth_from) [] ∷ made 0 (made_name 0 1) ∷ touched 0 to_get (made_name 0 1) (codes "join" ∷ []) ∷
    got 0 (made_name 0 1) (built_name r.join) ∷ touched 0 to_call (built_name r.join) [] ∷ [])
unfolding quick_from longest body look_up settle resume step all_of run_quickly misplaced declarations faults_in names_arguments free resolved text_within digits array_index
numbers_and_truth_values = refl

a_text_is_said : shown (codes "say('a' + 1); say([1, 2]);") 20 ≡
    came (gave undefined) 16 (touched 0 to_call (own_name 0 0) [] ∷ said 0 (codes "a1") ∷ made 0 (made_name 0 0) ∷ touched 0 to_call (own_name 0 0) [] ∷
    said 0 (codes "1,2") ∷ [])
unfolding quick_from longest body look_up settle resume step all_of run_quickly misplaced declarations faults_in names_arguments free resolved text_within digits
a_text_is_said = refl

later_wants_a_closure : shown (codes "later(function () { }); later(say);") 20 ≡
    came (threw (object (made_name 0 1))) 13 (made 0 (made_name 0 0) ∷ touched 0 to_call (own_name 0 1) [] ∷ touched 0 to_call (own_name 0 1) [] ∷
    made 0 (made_name 0 1) ∷ [])
unfolding quick_from longest body look_up settle resume step all_of run_quickly misplaced declarations faults_in names_arguments free resolved
later_wants_a_closure = refl

freeze_without_an_argument : shown (codes "cajita.freeze();") 10 ≡
    came (gave undefined) 6 (touched 0 to_get (tools_name of_cajita) (codes "freeze" ∷ []) ∷ got 0 (tools_name of_cajita) (built_name r.freeze) ∷
    touched 0 to_call (built_name r.freeze) [] ∷ [])
unfolding quick_from longest body look_up settle resume step all_of run_quickly misplaced declarations faults_in names_arguments free resolved text_within
freeze_without_an_argument = refl

a_snapshot_is_not_written : shown (codes "var s = cajita.snapshot([1]); s[0] = 2;") 20 ≡
    came (threw (object (made_name 0 2))) 14 (made 0 (made_name 0 0) ∷ touched 0 to_get (tools_name of_cajita) (codes "snapshot" ∷ []) ∷
    got 0 (tools_name of_cajita) (built_name r.snapshot) ∷ touched 0 to_call (built_name r.snapshot) [] ∷ made 0 (made_name 0 1) ∷
    touched 0 to_set (made_name 0 1) (codes "0" ∷ []) ∷ made 0 (made_name 0 2) ∷ [])
unfolding quick_from longest body look_up settle resume step all_of run_quickly misplaced declarations faults_in names_arguments free resolved text_within digits
a_snapshot_is_not_written = refl

a_snapshot_keeps_what_was : shown (codes "var o = {x: 1}, s = cajita.snapshot(o); o.x = 2; s.x;") 20 ≡
    came (gave (number (pos 1))) 18 (made 0 (made_name 0 0) ∷ touched 0 to_get (tools_name of_cajita) (codes "snapshot" ∷ []) ∷
    got 0 (tools_name of_cajita) (built_name r.snapshot) ∷ touched 0 to_call (built_name r.snapshot) [] ∷ made 0 (made_name 0 1) ∷
    touched 0 to_set (made_name 0 0) (codes "x" ∷ []) ∷ touched 0 to_get (made_name 0 1) (codes "x" ∷ []) ∷ [])
unfolding quick_from longest body look_up settle resume step all_of run_quickly misplaced declarations faults_in names_arguments free resolved text_within
a_snapshot_keeps_what_was = refl

a_text_is_not_copied : shown (codes "cajita.copy('ab');") 10 ≡
    came (threw (object (made_name 0 0))) 7 (touched 0 to_get (tools_name of_cajita) (codes "copy" ∷ []) ∷
    got 0 (tools_name of_cajita) (built_name r.copy) ∷ touched 0 to_call (built_name r.copy) [] ∷ made 0 (made_name 0 0) ∷ [])
unfolding quick_from longest body look_up settle resume step all_of run_quickly misplaced declarations faults_in names_arguments free resolved text_within
a_text_is_not_copied = refl

undefined_has_no_snapshot : shown (codes "cajita.snapshot();") 10 ≡
    came (threw (object (made_name 0 0))) 6 (touched 0 to_get (tools_name of_cajita) (codes "snapshot" ∷ []) ∷
    got 0 (tools_name of_cajita) (built_name r.snapshot) ∷ touched 0 to_call (built_name r.snapshot) [] ∷ made 0 (made_name 0 0) ∷ [])
unfolding quick_from longest body look_up settle resume step all_of run_quickly misplaced declarations faults_in names_arguments free resolved text_within
undefined_has_no_snapshot = refl

a_copy_of_a_tool : shown (codes "var c = cajita.copy(Math); c.x = 1; cajita.keys(c).join();") 30 ≡
    came (gave (text (codes "abs,floor,ceil,round,max,min,x"))) 20 (touched 0 to_get (tools_name of_cajita) (codes "copy" ∷ []) ∷
    got 0 (tools_name of_cajita) (built_name r.copy) ∷ touched 0 to_call (built_name r.copy) [] ∷ got 0 (tools_name of_math) (built_name r.abs) ∷
    got 0 (tools_name of_math) (built_name r.floor) ∷ got 0 (tools_name of_math) (built_name r.ceil) ∷ got 0 (tools_name of_math) (built_name r.round) ∷
    got 0 (tools_name of_math) (built_name r.max) ∷ got 0 (tools_name of_math) (built_name r.min) ∷ made 0 (made_name 0 0) ∷
    touched 0 to_set (made_name 0 0) (codes "x" ∷ []) ∷ touched 0 to_get (tools_name of_cajita) (codes "keys" ∷ []) ∷
    got 0 (tools_name of_cajita) (built_name r.keys) ∷ touched 0 to_call (built_name r.keys) [] ∷ made 0 (made_name 0 1) ∷
    touched 0 to_get (made_name 0 1) (codes "join" ∷ []) ∷ got 0 (made_name 0 1) (built_name r.join) ∷ touched 0 to_call (built_name r.join) [] ∷ [])
unfolding quick_from longest body look_up settle resume step all_of run_quickly misplaced declarations faults_in names_arguments free resolved text_within digits array_index
a_copy_of_a_tool = refl

greatest_and_least_of_one : shown (codes "[Math.max('-3'), Math.min(true), Math.abs('-0')].join();") 20 ≡
    came (gave (text (codes "-3,1,0"))) 18 (touched 0 to_get (tools_name of_math) (codes "max" ∷ []) ∷ got 0 (tools_name of_math) (built_name r.max) ∷
    touched 0 to_call (built_name r.max) [] ∷ touched 0 to_get (tools_name of_math) (codes "min" ∷ []) ∷ got 0 (tools_name of_math) (built_name r.min) ∷
    touched 0 to_call (built_name r.min) [] ∷ touched 0 to_get (tools_name of_math) (codes "abs" ∷ []) ∷ got 0 (tools_name of_math) (built_name r.abs) ∷
    touched 0 to_call (built_name r.abs) [] ∷ made 0 (made_name 0 0) ∷ touched 0 to_get (made_name 0 0) (codes "join" ∷ []) ∷
    got 0 (made_name 0 0) (built_name r.join) ∷ touched 0 to_call (built_name r.join) [] ∷ [])
unfolding quick_from longest body look_up settle resume step all_of run_quickly misplaced declarations faults_in names_arguments free resolved text_within digits array_index
greatest_and_least_of_one = refl

say_of_undefined : shown (codes "say(); say({}, 1);") 20 ≡
    came (gave undefined) 12 (touched 0 to_call (own_name 0 0) [] ∷ said 0 (codes "undefined") ∷ made 0 (made_name 0 0) ∷
    touched 0 to_call (own_name 0 0) [] ∷ said 0 (codes "[object Object]") ∷ [])
unfolding quick_from longest body look_up settle resume step all_of run_quickly misplaced declarations faults_in names_arguments free resolved text_within
say_of_undefined = refl

later_of_no_function : shown (codes "later(5);") 10 ≡
    came (threw (object (made_name 0 0))) 7 (touched 0 to_call (own_name 0 1) [] ∷ made 0 (made_name 0 0) ∷ [])
unfolding quick_from longest body look_up settle resume step all_of run_quickly misplaced declarations faults_in names_arguments free resolved
later_of_no_function = refl

later_is_called_through_call : shown (codes "later.call(null, function () { });") 10 ≡
    came (gave undefined) 9 (made 0 (made_name 0 0) ∷ touched 0 to_get (own_name 0 1) (codes "call" ∷ []) ∷ got 0 (own_name 0 1) (built_name r.call) ∷
    touched 0 to_call (built_name r.call) [] ∷ touched 0 to_call (own_name 0 1) [] ∷ [])
unfolding quick_from longest body look_up settle resume step all_of run_quickly misplaced declarations faults_in names_arguments free resolved text_within
later_is_called_through_call = refl

rounding_takes_what_has_a_number : shown (codes "Math.ceil(null) + Math.round(true) + Math.floor(' 2 ');") 20 ≡
    came (gave (number (pos 3))) 17 (touched 0 to_get (tools_name of_math) (codes "ceil" ∷ []) ∷ got 0 (tools_name of_math) (built_name r.ceil) ∷
    touched 0 to_call (built_name r.ceil) [] ∷ touched 0 to_get (tools_name of_math) (codes "round" ∷ []) ∷
    got 0 (tools_name of_math) (built_name r.round) ∷ touched 0 to_call (built_name r.round) [] ∷
    touched 0 to_get (tools_name of_math) (codes "floor" ∷ []) ∷ got 0 (tools_name of_math) (built_name r.floor) ∷
    touched 0 to_call (built_name r.floor) [] ∷ [])
unfolding quick_from longest body look_up settle resume step all_of run_quickly misplaced declarations faults_in names_arguments free resolved text_within
rounding_takes_what_has_a_number = refl

truth_values : shown (codes "[Boolean(0), Boolean(null), Boolean(say), Boolean(-1), Boolean({})].join();") 30 ≡
    came (gave (text (codes "false,false,true,true,true"))) 28 (touched 0 to_call (built_name r.truth_from) [] ∷
    touched 0 to_call (built_name r.truth_from) [] ∷ touched 0 to_call (built_name r.truth_from) [] ∷ touched 0 to_call (built_name r.truth_from) [] ∷
    made 0 (made_name 0 0) ∷ touched 0 to_call (built_name r.truth_from) [] ∷ made 0 (made_name 0 1) ∷
    touched 0 to_get (made_name 0 1) (codes "join" ∷ []) ∷ got 0 (made_name 0 1) (built_name r.join) ∷ touched 0 to_call (built_name r.join) [] ∷ [])
unfolding quick_from longest body look_up settle resume step all_of run_quickly misplaced declarations faults_in names_arguments free resolved text_within digits array_index
truth_values = refl

numbers_of_arrays : shown (codes "[Number([]), Number([5]), Number([[' 6 ']]), Number(null)].join();") 30 ≡
    came (gave (text (codes "0,5,6,0"))) 25 (made 0 (made_name 0 0) ∷ touched 0 to_call (built_name r.number_from) [] ∷ made 0 (made_name 0 1) ∷
    touched 0 to_call (built_name r.number_from) [] ∷ made 0 (made_name 0 2) ∷ made 0 (made_name 0 3) ∷ touched 0 to_call (built_name r.number_from) [] ∷
    touched 0 to_call (built_name r.number_from) [] ∷ made 0 (made_name 0 4) ∷ touched 0 to_get (made_name 0 4) (codes "join" ∷ []) ∷
    got 0 (made_name 0 4) (built_name r.join) ∷ touched 0 to_call (built_name r.join) [] ∷ [])
unfolding quick_from longest body look_up settle resume step all_of run_quickly misplaced declarations faults_in names_arguments free resolved text_within digits array_index
numbers_of_arrays = refl

texts_by_call : shown (codes "String.call(1, 'a') + String('');") 20 ≡
    came (gave (text (codes "a"))) 14 (touched 0 to_get (built_name r.text_from) (codes "call" ∷ []) ∷
    got 0 (built_name r.text_from) (built_name r.call) ∷ touched 0 to_call (built_name r.call) [] ∷ touched 0 to_call (built_name r.text_from) [] ∷
    touched 0 to_call (built_name r.text_from) [] ∷ [])
unfolding quick_from longest body look_up settle resume step all_of run_quickly misplaced declarations faults_in names_arguments free resolved text_within
texts_by_call = refl
