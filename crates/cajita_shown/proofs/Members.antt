-- Members: what each kind of value has, and what becomes of a write and of a deletion.
use Rattle.std.proofs.Common.{◌≡◌, [], ◌∷◌, refl}
use Rattle.std.specs.Prelude.{codes, pos}
use Rattle.std.specs.Fmt.{digits}
use Rattle.plans.specs.Plans.{depth_fault}
use Rattle.caja_units.specs.Index.{array_index}
use Rattle.es3_tokens.specs.Longest.{longest}
use Rattle.es3_tokens.specs.Texts.{body}
use Rattle.es3_tokens.specs.Cut.{point}
use Rattle.es3_tokens.specs.Quick.{quick_from}
use Rattle.es3_grammar.specs.Spots.{look_up}
use Rattle.es3_grammar.specs.Machine.{settle, resume, step, all_of}
use Rattle.es3_grammar.specs.Sums.{run_quickly}
use Rattle.es3_labels.specs.Misplaced.{misplaced}
use Rattle.cajita_names.specs.Declarations.{declarations}
use Rattle.cajita_rules.specs.Faults.{faults_in}
use Rattle.cajita_forms.specs.Arguments.{names_arguments}
use Rattle.scope_rules.specs.Free.{free}
use Rattle.scope_rules.specs.Resolve.{resolved}
use Rattle.rows.specs.Rows as r
use Rattle.rows.specs.Rows.{to_get, to_set, to_delete, to_has, to_call}
use Rattle.rows.specs.Names.{of_cajita}
use Rattle.cajita_meaning.specs.World.{made_name, built_name, tools_name, undefined, number, text, object}
use Rattle.cajita_meaning.specs.Doing.{text_within}
use Rattle.cajita_meaning.specs.Direct.{gave, threw, made, got, touched}
use Rattle.cajita_shown.specs.Shown.{came, faulted, shown}

pub a_written_key_is_read : shown (codes "var o = {x: {}}; o.x;") 10 ≡
    came (gave (object (made_name 0 0))) 8 (made 0 (made_name 0 0) ∷ made 0 (made_name 0 1) ∷ touched 0 to_get (made_name 0 1) (codes "x" ∷ []) ∷
    got 0 (made_name 0 1) (made_name 0 0) ∷ [])
unfolding quick_from longest body look_up settle resume step all_of run_quickly misplaced declarations faults_in names_arguments free resolved text_within
a_written_key_is_read = refl

a_computed_key_is_its_text : shown (codes "var o = {'1,2': 'y'}; o[[1, 2]];") 20 ≡
    came (gave (text (codes "y"))) 11 (made 0 (made_name 0 0) ∷ made 0 (made_name 0 1) ∷ touched 0 to_get (made_name 0 0) (codes "1,2" ∷ []) ∷ [])
unfolding quick_from longest body look_up settle resume step all_of run_quickly misplaced declarations faults_in names_arguments free resolved text_within digits
a_computed_key_is_its_text = refl

an_absent_key_is_undefined : shown (codes "var o = {x: 1}; o.y;") 10 ≡
    came (gave undefined) 8 (made 0 (made_name 0 0) ∷ touched 0 to_get (made_name 0 0) (codes "y" ∷ []) ∷ [])
unfolding quick_from longest body look_up settle resume step all_of run_quickly misplaced declarations faults_in names_arguments free resolved text_within
an_absent_key_is_undefined = refl

a_write_gives_its_value_and_a_new_key_goes_last : shown (codes "var o = {x: 1}; o.z = 2; o['y'] = 3; o.x = 4; cajita.keys(o).join() + o.x;") 30 ≡
    came (gave (text (codes "x,z,y4"))) 29 (made 0 (made_name 0 0) ∷ touched 0 to_set (made_name 0 0) (codes "z" ∷ []) ∷
    touched 0 to_set (made_name 0 0) (codes "y" ∷ []) ∷ touched 0 to_set (made_name 0 0) (codes "x" ∷ []) ∷
    touched 0 to_get (tools_name of_cajita) (codes "keys" ∷ []) ∷ got 0 (tools_name of_cajita) (built_name r.keys) ∷
    touched 0 to_call (built_name r.keys) [] ∷ made 0 (made_name 0 1) ∷ touched 0 to_get (made_name 0 1) (codes "join" ∷ []) ∷
    got 0 (made_name 0 1) (built_name r.join) ∷ touched 0 to_call (built_name r.join) [] ∷ touched 0 to_get (made_name 0 0) (codes "x" ∷ []) ∷ [])
unfolding quick_from longest body look_up settle resume step all_of run_quickly misplaced declarations faults_in names_arguments free resolved text_within digits array_index
a_write_gives_its_value_and_a_new_key_goes_last = refl

a_member_is_changed_by_an_operator : shown (codes "var o = {x: 6}; o.x *= 7; o['x'] -= 2;") 20 ≡
    came (gave (number (pos 40))) 14 (made 0 (made_name 0 0) ∷ touched 0 to_get (made_name 0 0) (codes "x" ∷ []) ∷
    touched 0 to_set (made_name 0 0) (codes "x" ∷ []) ∷ touched 0 to_get (made_name 0 0) (codes "x" ∷ []) ∷
    touched 0 to_set (made_name 0 0) (codes "x" ∷ []) ∷ [])
unfolding quick_from longest body look_up settle resume step all_of run_quickly misplaced declarations faults_in names_arguments free resolved text_within
a_member_is_changed_by_an_operator = refl

a_variable_is_changed_by_each_operator : shown (codes "var a = 9; a += 1; a -= 2; a *= 3; a /= 4; a %= 4; a <<= 5; a >>= 1; a >>>= 2; a |= 3; a &= 6; a ^= 5; a;") 40 ≡
    came (gave (number (pos 7))) 39 []
unfolding quick_from longest body look_up settle resume step all_of run_quickly misplaced declarations faults_in names_arguments free resolved
a_variable_is_changed_by_each_operator = refl

steps_of_a_variable : shown (codes "var x = 1; [x++, ++x, x--, --x].join();") 20 ≡
    came (gave (text (codes "1,3,3,1"))) 12 (made 0 (made_name 0 0) ∷ touched 0 to_get (made_name 0 0) (codes "join" ∷ []) ∷
    got 0 (made_name 0 0) (built_name r.join) ∷ touched 0 to_call (built_name r.join) [] ∷ [])
unfolding quick_from longest body look_up settle resume step all_of run_quickly misplaced declarations faults_in names_arguments free resolved text_within digits array_index
steps_of_a_variable = refl

steps_of_a_member : shown (codes "var o = {n: '1'}; var k = 'n'; [o.n++, ++o[k], o[k]--, --o.n].join();") 30 ≡
    came (gave (text (codes "1,3,3,1"))) 22 (made 0 (made_name 0 0) ∷ touched 0 to_get (made_name 0 0) (codes "n" ∷ []) ∷
    touched 0 to_set (made_name 0 0) (codes "n" ∷ []) ∷ touched 0 to_get (made_name 0 0) (codes "n" ∷ []) ∷
    touched 0 to_set (made_name 0 0) (codes "n" ∷ []) ∷ touched 0 to_get (made_name 0 0) (codes "n" ∷ []) ∷
    touched 0 to_set (made_name 0 0) (codes "n" ∷ []) ∷ touched 0 to_get (made_name 0 0) (codes "n" ∷ []) ∷
    touched 0 to_set (made_name 0 0) (codes "n" ∷ []) ∷ made 0 (made_name 0 1) ∷ touched 0 to_get (made_name 0 1) (codes "join" ∷ []) ∷
    got 0 (made_name 0 1) (built_name r.join) ∷ touched 0 to_call (built_name r.join) [] ∷ [])
unfolding quick_from longest body look_up settle resume step all_of run_quickly misplaced declarations faults_in names_arguments free resolved text_within digits array_index
steps_of_a_member = refl

a_key_is_converted_once : shown (codes "var a = [[0]]; a[a[0]] += 'x'; a[0];") 20 ≡
    came (gave (text (codes "0x"))) 17 (made 0 (made_name 0 0) ∷ made 0 (made_name 0 1) ∷ touched 0 to_get (made_name 0 1) (codes "0" ∷ []) ∷
    got 0 (made_name 0 1) (made_name 0 0) ∷ touched 0 to_get (made_name 0 1) (codes "0" ∷ []) ∷ got 0 (made_name 0 1) (made_name 0 0) ∷
    touched 0 to_set (made_name 0 1) (codes "0" ∷ []) ∷ touched 0 to_get (made_name 0 1) (codes "0" ∷ []) ∷ [])
unfolding quick_from longest body look_up settle resume step all_of run_quickly misplaced declarations faults_in names_arguments free resolved text_within digits array_index
a_key_is_converted_once = refl

a_deletion_gives_true : shown (codes "var o = {x: 1, y: 2}; [delete o.x, delete o['z'], o.x, cajita.keys(o)].join('|');") 30 ≡
    came (gave (text (codes "true|true||y"))) 23 (made 0 (made_name 0 0) ∷ touched 0 to_delete (made_name 0 0) (codes "x" ∷ []) ∷
    touched 0 to_delete (made_name 0 0) (codes "z" ∷ []) ∷ touched 0 to_get (made_name 0 0) (codes "x" ∷ []) ∷
    touched 0 to_get (tools_name of_cajita) (codes "keys" ∷ []) ∷ got 0 (tools_name of_cajita) (built_name r.keys) ∷
    touched 0 to_call (built_name r.keys) [] ∷ made 0 (made_name 0 1) ∷ made 0 (made_name 0 2) ∷ touched 0 to_get (made_name 0 2) (codes "join" ∷ []) ∷
    got 0 (made_name 0 2) (built_name r.join) ∷ touched 0 to_call (built_name r.join) [] ∷ [])
unfolding quick_from longest body look_up settle resume step all_of run_quickly misplaced declarations faults_in names_arguments free resolved text_within digits array_index
a_deletion_gives_true = refl

pub a_constructor_is_a_key : shown (codes "var o = {}; o.constructor = 1; delete o.constructor; o.constructor;") 20 ≡
    came (gave undefined) 14 (made 0 (made_name 0 0) ∷ touched 0 to_set (made_name 0 0) (codes "constructor" ∷ []) ∷
    touched 0 to_delete (made_name 0 0) (codes "constructor" ∷ []) ∷ touched 0 to_get (made_name 0 0) (codes "constructor" ∷ []) ∷ [])
unfolding quick_from longest body look_up settle resume step all_of run_quickly misplaced declarations faults_in names_arguments free resolved text_within
a_constructor_is_a_key = refl

pub a_hidden_key_is_not_written : shown (codes "var o = {}; o['a' + '__'] = 1;") 20 ≡
    came (threw (object (made_name 0 1))) 11 (made 0 (made_name 0 0) ∷ touched 0 to_set (made_name 0 0) (codes "a__" ∷ []) ∷ made 0 (made_name 0 1) ∷ [])
unfolding quick_from longest body look_up settle resume step all_of run_quickly misplaced declarations faults_in names_arguments free resolved text_within
a_hidden_key_is_not_written = refl

a_hidden_key_reads_as_undefined : shown (codes "var o = {x: 1}; [o['x' + '__'], ('x' + '__') in o].join('|');") 30 ≡
    came (gave (text (codes "|false"))) 20 (made 0 (made_name 0 0) ∷ touched 0 to_get (made_name 0 0) (codes "x__" ∷ []) ∷
    touched 0 to_has (made_name 0 0) (codes "x__" ∷ []) ∷ made 0 (made_name 0 1) ∷ touched 0 to_get (made_name 0 1) (codes "join" ∷ []) ∷
    got 0 (made_name 0 1) (built_name r.join) ∷ touched 0 to_call (built_name r.join) [] ∷ [])
unfolding quick_from longest body look_up settle resume step all_of run_quickly misplaced declarations faults_in names_arguments free resolved text_within digits array_index
a_hidden_key_reads_as_undefined = refl

a_hidden_key_is_not_deleted : shown (codes "var o = {}; delete o['a__'];") 10 ≡
    came (threw (object (made_name 0 1))) 8 (made 0 (made_name 0 0) ∷ touched 0 to_delete (made_name 0 0) (codes "a__" ∷ []) ∷
    made 0 (made_name 0 1) ∷ [])
unfolding quick_from longest body look_up settle resume step all_of run_quickly misplaced declarations faults_in names_arguments free resolved text_within
a_hidden_key_is_not_deleted = refl

pub a_key_named_toString_is_not_written : shown (codes "var o = {}; o.toString = 1;") 10 ≡
    came (threw (object (made_name 0 1))) 8 (made 0 (made_name 0 0) ∷ touched 0 to_set (made_name 0 0) (codes "toString" ∷ []) ∷
    made 0 (made_name 0 1) ∷ [])
unfolding quick_from longest body look_up settle resume step all_of run_quickly misplaced declarations faults_in names_arguments free resolved text_within
a_key_named_toString_is_not_written = refl

a_key_named_valueOf_is_not_deleted : shown (codes "var o = {}; delete o.valueOf;") 10 ≡
    came (threw (object (made_name 0 1))) 7 (made 0 (made_name 0 0) ∷ touched 0 to_delete (made_name 0 0) (codes "valueOf" ∷ []) ∷
    made 0 (made_name 0 1) ∷ [])
unfolding quick_from longest body look_up settle resume step all_of run_quickly misplaced declarations faults_in names_arguments free resolved text_within
a_key_named_valueOf_is_not_deleted = refl

undefined_has_no_members : shown (codes "var u; u.x;") 10 ≡
    came (threw (object (made_name 0 0))) 6 (made 0 (made_name 0 0) ∷ [])
unfolding quick_from longest body look_up settle resume step all_of run_quickly misplaced declarations faults_in names_arguments free resolved
undefined_has_no_members = refl

null_gets_no_members_after_its_value : shown (codes "var t = 'no'; try { null.x = (t = 'yes'); } catch (e) { t += e.message; } t;") 20 ≡
    came (gave (text (codes "yesno object"))) 16 (made 0 (made_name 0 0) ∷ touched 0 to_get (made_name 0 0) (codes "message" ∷ []) ∷ [])
unfolding quick_from longest body look_up settle resume step all_of run_quickly misplaced declarations faults_in names_arguments free resolved text_within
null_gets_no_members_after_its_value = refl

null_loses_no_members : shown (codes "delete null[[]];") 10 ≡
    came (threw (object (made_name 0 1))) 5 (made 0 (made_name 0 0) ∷ made 0 (made_name 0 1) ∷ [])
unfolding quick_from longest body look_up settle resume step all_of run_quickly misplaced declarations faults_in names_arguments free resolved
null_loses_no_members = refl

a_number_has_no_members : shown (codes "var n = 5; [n.x, n.length, true.y].join('|');") 20 ≡
    came (gave (text (codes "||"))) 15 (made 0 (made_name 0 0) ∷ touched 0 to_get (made_name 0 0) (codes "join" ∷ []) ∷
    got 0 (made_name 0 0) (built_name r.join) ∷ touched 0 to_call (built_name r.join) [] ∷ [])
unfolding quick_from longest body look_up settle resume step all_of run_quickly misplaced declarations faults_in names_arguments free resolved text_within digits array_index
a_number_has_no_members = refl

a_number_is_not_written : shown (codes "var n = 5; n.x = 1;") 10 ≡
    came (threw (object (made_name 0 0))) 8 (made 0 (made_name 0 0) ∷ [])
unfolding quick_from longest body look_up settle resume step all_of run_quickly misplaced declarations faults_in names_arguments free resolved text_within
a_number_is_not_written = refl

a_text_has_a_length_and_no_items : shown (codes "var s = 'abc'; [s.length, s[0], s.x].join('|');") 20 ≡
    came (gave (text (codes "3||"))) 16 (made 0 (made_name 0 0) ∷ touched 0 to_get (made_name 0 0) (codes "join" ∷ []) ∷
    got 0 (made_name 0 0) (built_name r.join) ∷ touched 0 to_call (built_name r.join) [] ∷ [])
unfolding quick_from longest body look_up settle resume step all_of run_quickly misplaced declarations faults_in names_arguments free resolved text_within digits array_index
a_text_has_a_length_and_no_items = refl

a_text_is_not_written : shown (codes "var s = 'abc'; s.length = 1;") 10 ≡
    came (threw (object (made_name 0 0))) 8 (made 0 (made_name 0 0) ∷ [])
unfolding quick_from longest body look_up settle resume step all_of run_quickly misplaced declarations faults_in names_arguments free resolved text_within
a_text_is_not_written = refl

pub a_method_of_a_text_is_not_got : shown (codes "'ab'.charAt;") 10 ≡
    came (gave (object (built_name r.char_at))) 4 []
unfolding quick_from longest body look_up settle resume step all_of run_quickly misplaced declarations faults_in names_arguments free resolved text_within
a_method_of_a_text_is_not_got = refl

a_method_of_an_array_is_got : shown (codes "var a = []; a.push;") 10 ≡
    came (gave (object (built_name r.push))) 7 (made 0 (made_name 0 0) ∷ touched 0 to_get (made_name 0 0) (codes "push" ∷ []) ∷
    got 0 (made_name 0 0) (built_name r.push) ∷ [])
unfolding quick_from longest body look_up settle resume step all_of run_quickly misplaced declarations faults_in names_arguments free resolved text_within digits array_index
a_method_of_an_array_is_got = refl

a_function_has_call_and_apply : shown (codes "function f() { } [typeof f.call, typeof f.apply, typeof f.x, f.length].join('|');") 20 ≡
    came (gave (text (codes "function|function|undefined|"))) 18 (made 0 (made_name 0 0) ∷ touched 0 to_get (made_name 0 0) (codes "call" ∷ []) ∷
    got 0 (made_name 0 0) (built_name r.call) ∷ touched 0 to_get (made_name 0 0) (codes "apply" ∷ []) ∷ got 0 (made_name 0 0) (built_name r.apply) ∷
    touched 0 to_get (made_name 0 0) (codes "x" ∷ []) ∷ touched 0 to_get (made_name 0 0) (codes "length" ∷ []) ∷ made 0 (made_name 0 1) ∷
    touched 0 to_get (made_name 0 1) (codes "join" ∷ []) ∷ got 0 (made_name 0 1) (built_name r.join) ∷ touched 0 to_call (built_name r.join) [] ∷ [])
unfolding quick_from longest body look_up settle resume step all_of run_quickly misplaced declarations faults_in names_arguments free resolved text_within digits array_index
a_function_has_call_and_apply = refl

a_function_is_not_written : shown (codes "function f() { } f.x = 1;") 10 ≡
    came (threw (object (made_name 0 1))) 6 (made 0 (made_name 0 0) ∷ touched 0 to_set (made_name 0 0) (codes "x" ∷ []) ∷ made 0 (made_name 0 1) ∷ [])
unfolding quick_from longest body look_up settle resume step all_of run_quickly misplaced declarations faults_in names_arguments free resolved text_within
a_function_is_not_written = refl

a_function_loses_nothing : shown (codes "function f() { } delete f.call;") 10 ≡
    came (threw (object (made_name 0 1))) 5 (made 0 (made_name 0 0) ∷ touched 0 to_delete (made_name 0 0) (codes "call" ∷ []) ∷
    made 0 (made_name 0 1) ∷ [])
unfolding quick_from longest body look_up settle resume step all_of run_quickly misplaced declarations faults_in names_arguments free resolved text_within
a_function_loses_nothing = refl

an_error_has_a_name_and_a_message : shown (codes "var e = RangeError('m'); [e.name, e.message, e.x, 'name' in e, 'x' in e].join('|');") 30 ≡
    came (gave (text (codes "RangeError|m||true|false"))) 25 (touched 0 to_call (built_name (r.makes r.range_error)) [] ∷ made 0 (made_name 0 0) ∷
    touched 0 to_get (made_name 0 0) (codes "name" ∷ []) ∷ touched 0 to_get (made_name 0 0) (codes "message" ∷ []) ∷
    touched 0 to_get (made_name 0 0) (codes "x" ∷ []) ∷ touched 0 to_has (made_name 0 0) (codes "name" ∷ []) ∷
    touched 0 to_has (made_name 0 0) (codes "x" ∷ []) ∷ made 0 (made_name 0 1) ∷ touched 0 to_get (made_name 0 1) (codes "join" ∷ []) ∷
    got 0 (made_name 0 1) (built_name r.join) ∷ touched 0 to_call (built_name r.join) [] ∷ [])
unfolding quick_from longest body look_up settle resume step all_of run_quickly misplaced declarations faults_in names_arguments free resolved text_within digits array_index
an_error_has_a_name_and_a_message = refl

an_error_is_not_written : shown (codes "var e = Error('m'); e.message = 'x';") 20 ≡
    came (threw (object (made_name 0 1))) 12 (touched 0 to_call (built_name (r.makes r.error)) [] ∷ made 0 (made_name 0 0) ∷
    touched 0 to_set (made_name 0 0) (codes "message" ∷ []) ∷ made 0 (made_name 0 1) ∷ [])
unfolding quick_from longest body look_up settle resume step all_of run_quickly misplaced declarations faults_in names_arguments free resolved text_within
an_error_is_not_written = refl

a_tool_is_frozen : shown (codes "cajita.x = 1;") 10 ≡
    came (threw (object (made_name 0 0))) 6 (touched 0 to_set (tools_name of_cajita) (codes "x" ∷ []) ∷ made 0 (made_name 0 0) ∷ [])
unfolding quick_from longest body look_up settle resume step all_of run_quickly misplaced declarations faults_in names_arguments free resolved text_within
a_tool_is_frozen = refl

keys_of_each_kind : shown (codes "[cajita.keys([7, 8]), cajita.keys({a: 1}), cajita.keys('ab').length, cajita.keys(5).length, cajita.keys(Error).length].join('|');") 40 ≡
    came (gave (text (codes "0,1|a|0|0|0"))) 34 (made 0 (made_name 0 0) ∷ touched 0 to_get (tools_name of_cajita) (codes "keys" ∷ []) ∷
    got 0 (tools_name of_cajita) (built_name r.keys) ∷ touched 0 to_call (built_name r.keys) [] ∷ made 0 (made_name 0 1) ∷ made 0 (made_name 0 2) ∷
    touched 0 to_get (tools_name of_cajita) (codes "keys" ∷ []) ∷ got 0 (tools_name of_cajita) (built_name r.keys) ∷
    touched 0 to_call (built_name r.keys) [] ∷ made 0 (made_name 0 3) ∷ touched 0 to_get (tools_name of_cajita) (codes "keys" ∷ []) ∷
    got 0 (tools_name of_cajita) (built_name r.keys) ∷ touched 0 to_call (built_name r.keys) [] ∷ made 0 (made_name 0 4) ∷
    touched 0 to_get (made_name 0 4) (codes "length" ∷ []) ∷ touched 0 to_get (tools_name of_cajita) (codes "keys" ∷ []) ∷
    got 0 (tools_name of_cajita) (built_name r.keys) ∷ touched 0 to_call (built_name r.keys) [] ∷ made 0 (made_name 0 5) ∷
    touched 0 to_get (made_name 0 5) (codes "length" ∷ []) ∷ touched 0 to_get (tools_name of_cajita) (codes "keys" ∷ []) ∷
    got 0 (tools_name of_cajita) (built_name r.keys) ∷ touched 0 to_call (built_name r.keys) [] ∷ made 0 (made_name 0 6) ∷
    touched 0 to_get (made_name 0 6) (codes "length" ∷ []) ∷ made 0 (made_name 0 7) ∷ touched 0 to_get (made_name 0 7) (codes "join" ∷ []) ∷
    got 0 (made_name 0 7) (built_name r.join) ∷ touched 0 to_call (built_name r.join) [] ∷ [])
unfolding quick_from longest body look_up settle resume step all_of run_quickly misplaced declarations faults_in names_arguments free resolved text_within digits array_index
keys_of_each_kind = refl

undefined_has_no_keys : shown (codes "cajita.keys(undefined);") 10 ≡
    came (threw (object (made_name 0 0))) 8 (touched 0 to_get (tools_name of_cajita) (codes "keys" ∷ []) ∷
    got 0 (tools_name of_cajita) (built_name r.keys) ∷ touched 0 to_call (built_name r.keys) [] ∷ made 0 (made_name 0 0) ∷ [])
unfolding quick_from longest body look_up settle resume step all_of run_quickly misplaced declarations faults_in names_arguments free resolved text_within
undefined_has_no_keys = refl

undefined_and_null_have_no_keys_to_look_for : shown (codes "var t = ''; try { 'x' in undefined; } catch (e) { t += e.message; } try { 'x' in null; } catch (e) { t += e.message; } t;") 30 ≡
    came (gave (text (codes "no objectno object"))) 25 (made 0 (made_name 0 0) ∷ touched 0 to_get (made_name 0 0) (codes "message" ∷ []) ∷
    made 0 (made_name 0 1) ∷ touched 0 to_get (made_name 0 1) (codes "message" ∷ []) ∷ [])
unfolding quick_from longest body look_up settle resume step all_of run_quickly misplaced declarations faults_in names_arguments free resolved text_within
undefined_and_null_have_no_keys_to_look_for = refl

a_truth_value_has_no_keys_to_look_for : shown (codes "'x' in true;") 10 ≡
    came (threw (object (made_name 0 0))) 5 (made 0 (made_name 0 0) ∷ [])
unfolding quick_from longest body look_up settle resume step all_of run_quickly misplaced declarations faults_in names_arguments free resolved text_within
a_truth_value_has_no_keys_to_look_for = refl

a_truth_value_is_not_written : shown (codes "true.x = 1;") 10 ≡
    came (threw (object (made_name 0 0))) 5 (made 0 (made_name 0 0) ∷ [])
unfolding quick_from longest body look_up settle resume step all_of run_quickly misplaced declarations faults_in names_arguments free resolved text_within
a_truth_value_is_not_written = refl

a_number_loses_nothing : shown (codes "var n = 5; delete n.x;") 10 ≡
    came (threw (object (made_name 0 0))) 7 (made 0 (made_name 0 0) ∷ [])
unfolding quick_from longest body look_up settle resume step all_of run_quickly misplaced declarations faults_in names_arguments free resolved text_within
a_number_loses_nothing = refl

a_text_loses_nothing : shown (codes "var s = 'a'; delete s[0];") 10 ≡
    came (threw (object (made_name 0 0))) 8 (made 0 (made_name 0 0) ∷ [])
unfolding quick_from longest body look_up settle resume step all_of run_quickly misplaced declarations faults_in names_arguments free resolved text_within digits
a_text_loses_nothing = refl

an_error_loses_nothing : shown (codes "delete Error('m').message;") 10 ≡
    came (threw (object (made_name 0 1))) 8 (touched 0 to_call (built_name (r.makes r.error)) [] ∷ made 0 (made_name 0 0) ∷
    touched 0 to_delete (made_name 0 0) (codes "message" ∷ []) ∷ made 0 (made_name 0 1) ∷ [])
unfolding quick_from longest body look_up settle resume step all_of run_quickly misplaced declarations faults_in names_arguments free resolved text_within
an_error_loses_nothing = refl

a_hidden_key_of_a_number_is_bad_before_it_is_not_writable : shown (codes "(5)['a' + '__'] = 1;") 10 ≡
    came (threw (object (made_name 0 0))) 8 (made 0 (made_name 0 0) ∷ [])
unfolding quick_from longest body look_up settle resume step all_of run_quickly misplaced declarations faults_in names_arguments free resolved text_within
a_hidden_key_of_a_number_is_bad_before_it_is_not_writable = refl

no_object_comes_before_a_bad_key : shown (codes "var u; u['a' + '__'] = 1;") 20 ≡
    came (threw (object (made_name 0 0))) 10 (made 0 (made_name 0 0) ∷ [])
unfolding quick_from longest body look_up settle resume step all_of run_quickly misplaced declarations faults_in names_arguments free resolved text_within
no_object_comes_before_a_bad_key = refl

a_hidden_key_of_a_frozen_record_is_bad : shown (codes "cajita.freeze({})['a' + '__'] = 1;") 20 ≡
    came (threw (object (made_name 0 1))) 12 (made 0 (made_name 0 0) ∷ touched 0 to_get (tools_name of_cajita) (codes "freeze" ∷ []) ∷
    got 0 (tools_name of_cajita) (built_name r.freeze) ∷ touched 0 to_call (built_name r.freeze) [] ∷
    touched 0 to_set (made_name 0 0) (codes "a__" ∷ []) ∷ made 0 (made_name 0 1) ∷ [])
unfolding quick_from longest body look_up settle resume step all_of run_quickly misplaced declarations faults_in names_arguments free resolved text_within
a_hidden_key_of_a_frozen_record_is_bad = refl

a_hidden_key_of_an_array_is_bad : shown (codes "[]['to' + 'String'] = 1;") 10 ≡
    came (threw (object (made_name 0 1))) 8 (made 0 (made_name 0 0) ∷ touched 0 to_set (made_name 0 0) (codes "toString" ∷ []) ∷
    made 0 (made_name 0 1) ∷ [])
unfolding quick_from longest body look_up settle resume step all_of run_quickly misplaced declarations faults_in names_arguments free resolved text_within
a_hidden_key_of_an_array_is_bad = refl

an_array_loses_no_hidden_key : shown (codes "delete []['a' + '__'];") 10 ≡
    came (threw (object (made_name 0 1))) 7 (made 0 (made_name 0 0) ∷ touched 0 to_delete (made_name 0 0) (codes "a__" ∷ []) ∷
    made 0 (made_name 0 1) ∷ [])
unfolding quick_from longest body look_up settle resume step all_of run_quickly misplaced declarations faults_in names_arguments free resolved text_within
an_array_loses_no_hidden_key = refl

a_hidden_key_of_a_text_is_undefined : shown (codes "'ab'['length' + '__'];") 10 ≡
    came (gave undefined) 7 []
unfolding quick_from longest body look_up settle resume step all_of run_quickly misplaced declarations faults_in names_arguments free resolved text_within
a_hidden_key_of_a_text_is_undefined = refl

toString_reads_as_undefined : shown (codes "var o = {}; [o.toString, 'toString' in o, [].toString, 'a'.valueOf].join('|');") 20 ≡
    came (gave (text (codes "|false||"))) 18 (made 0 (made_name 0 0) ∷ touched 0 to_get (made_name 0 0) (codes "toString" ∷ []) ∷
    touched 0 to_has (made_name 0 0) (codes "toString" ∷ []) ∷ made 0 (made_name 0 1) ∷ touched 0 to_get (made_name 0 1) (codes "toString" ∷ []) ∷
    made 0 (made_name 0 2) ∷ touched 0 to_get (made_name 0 2) (codes "join" ∷ []) ∷ got 0 (made_name 0 2) (built_name r.join) ∷
    touched 0 to_call (built_name r.join) [] ∷ [])
unfolding quick_from longest body look_up settle resume step all_of run_quickly misplaced declarations faults_in names_arguments free resolved text_within digits array_index
toString_reads_as_undefined = refl

an_item_is_read_at_a_canonical_index : shown (codes "var a = [7]; [a[0], a['0'], a['00'], a[1], a['-1'], a.x].join('|');") 30 ≡
    came (gave (text (codes "7|7||||"))) 27 (made 0 (made_name 0 0) ∷ touched 0 to_get (made_name 0 0) (codes "0" ∷ []) ∷
    touched 0 to_get (made_name 0 0) (codes "0" ∷ []) ∷ touched 0 to_get (made_name 0 0) (codes "00" ∷ []) ∷
    touched 0 to_get (made_name 0 0) (codes "1" ∷ []) ∷ touched 0 to_get (made_name 0 0) (codes "-1" ∷ []) ∷
    touched 0 to_get (made_name 0 0) (codes "x" ∷ []) ∷ made 0 (made_name 0 1) ∷ touched 0 to_get (made_name 0 1) (codes "join" ∷ []) ∷
    got 0 (made_name 0 1) (built_name r.join) ∷ touched 0 to_call (built_name r.join) [] ∷ [])
unfolding quick_from longest body look_up settle resume step all_of run_quickly misplaced declarations faults_in names_arguments free resolved text_within digits array_index
an_item_is_read_at_a_canonical_index = refl

a_key_that_is_a_record : shown (codes "var o = {'[object Object]': 1}; o[{}];") 10 ≡
    came (gave (number (pos 1))) 9 (made 0 (made_name 0 0) ∷ made 0 (made_name 0 1) ∷
    touched 0 to_get (made_name 0 0) (codes "[object Object]" ∷ []) ∷ [])
unfolding quick_from longest body look_up settle resume step all_of run_quickly misplaced declarations faults_in names_arguments free resolved text_within
a_key_that_is_a_record = refl

a_deleted_key_that_comes_again_goes_last : shown (codes "var o = {a: 1, b: 2}; delete o.a; o.a = 3; cajita.keys(o).join();") 30 ≡
    came (gave (text (codes "b,a"))) 21 (made 0 (made_name 0 0) ∷ touched 0 to_delete (made_name 0 0) (codes "a" ∷ []) ∷
    touched 0 to_set (made_name 0 0) (codes "a" ∷ []) ∷ touched 0 to_get (tools_name of_cajita) (codes "keys" ∷ []) ∷
    got 0 (tools_name of_cajita) (built_name r.keys) ∷ touched 0 to_call (built_name r.keys) [] ∷ made 0 (made_name 0 1) ∷
    touched 0 to_get (made_name 0 1) (codes "join" ∷ []) ∷ got 0 (made_name 0 1) (built_name r.join) ∷ touched 0 to_call (built_name r.join) [] ∷ [])
unfolding quick_from longest body look_up settle resume step all_of run_quickly misplaced declarations faults_in names_arguments free resolved text_within digits array_index
a_deleted_key_that_comes_again_goes_last = refl

a_write_to_a_member_evaluates_object_key_and_value_first : shown (codes "var t = ''; function k(x) { t += x; return x; } try { (t += 'o', null)[k('k')] = k('v'); } catch (e) { t += e.message; } t;") 40 ≡
    came (gave (text (codes "okvno object"))) 36 (made 0 (made_name 0 0) ∷ touched 0 to_call (made_name 0 0) [] ∷ touched 0 to_call (made_name 0 0) [] ∷
    made 0 (made_name 0 1) ∷ touched 0 to_get (made_name 0 1) (codes "message" ∷ []) ∷ [])
unfolding quick_from longest body look_up settle resume step all_of run_quickly misplaced declarations faults_in names_arguments free resolved text_within
a_write_to_a_member_evaluates_object_key_and_value_first = refl

a_changed_member_is_read_before_the_value : shown (codes "var o = {x: 1}; o.x += (o.x = 5); o.x;") 20 ≡
    came (gave (number (pos 6))) 14 (made 0 (made_name 0 0) ∷ touched 0 to_get (made_name 0 0) (codes "x" ∷ []) ∷
    touched 0 to_set (made_name 0 0) (codes "x" ∷ []) ∷ touched 0 to_set (made_name 0 0) (codes "x" ∷ []) ∷
    touched 0 to_get (made_name 0 0) (codes "x" ∷ []) ∷ [])
unfolding quick_from longest body look_up settle resume step all_of run_quickly misplaced declarations faults_in names_arguments free resolved text_within
a_changed_member_is_read_before_the_value = refl

a_changed_member_of_undefined : shown (codes "var u, t = 'a'; try { u.x += (t = 'b'); } catch (e) { t += e.message; } t;") 20 ≡
    came (gave (text (codes "ano object"))) 15 (made 0 (made_name 0 0) ∷ touched 0 to_get (made_name 0 0) (codes "message" ∷ []) ∷ [])
unfolding quick_from longest body look_up settle resume step all_of run_quickly misplaced declarations faults_in names_arguments free resolved text_within
a_changed_member_of_undefined = refl

a_changed_variable_is_read_before_the_value : shown (codes "var x = 1; x += (x = 5); x;") 20 ≡
    came (gave (number (pos 6))) 10 []
unfolding quick_from longest body look_up settle resume step all_of run_quickly misplaced declarations faults_in names_arguments free resolved
a_changed_variable_is_read_before_the_value = refl

no_key_is_converted_where_there_is_no_object : shown (codes "var u, a = [], t = ''; for (var i = 1; i < 33; i++) a = [a]; try { u[a]; } catch (e) { t += 'r'; } try { u[a] = 1; } catch (e) { t += 'w'; } try { delete null[a]; } catch (e) { t += 'd'; } try { null[a](); } catch (e) { t += 'c'; } t;") 310 ≡
    came (gave (text (codes "rwdc"))) 304 (made 0 (made_name 0 0) ∷ made 0 (made_name 0 1) ∷ made 0 (made_name 0 2) ∷ made 0 (made_name 0 3) ∷
    made 0 (made_name 0 4) ∷ made 0 (made_name 0 5) ∷ made 0 (made_name 0 6) ∷ made 0 (made_name 0 7) ∷ made 0 (made_name 0 8) ∷ made 0 (made_name 0 9) ∷
    made 0 (made_name 0 10) ∷ made 0 (made_name 0 11) ∷ made 0 (made_name 0 12) ∷ made 0 (made_name 0 13) ∷ made 0 (made_name 0 14) ∷
    made 0 (made_name 0 15) ∷ made 0 (made_name 0 16) ∷ made 0 (made_name 0 17) ∷ made 0 (made_name 0 18) ∷ made 0 (made_name 0 19) ∷
    made 0 (made_name 0 20) ∷ made 0 (made_name 0 21) ∷ made 0 (made_name 0 22) ∷ made 0 (made_name 0 23) ∷ made 0 (made_name 0 24) ∷
    made 0 (made_name 0 25) ∷ made 0 (made_name 0 26) ∷ made 0 (made_name 0 27) ∷ made 0 (made_name 0 28) ∷ made 0 (made_name 0 29) ∷
    made 0 (made_name 0 30) ∷ made 0 (made_name 0 31) ∷ made 0 (made_name 0 32) ∷ made 0 (made_name 0 33) ∷ made 0 (made_name 0 34) ∷
    made 0 (made_name 0 35) ∷ made 0 (made_name 0 36) ∷ [])
unfolding quick_from longest body point look_up settle resume step all_of run_quickly misplaced declarations faults_in names_arguments free resolved text_within
no_key_is_converted_where_there_is_no_object = refl

the_key_of_a_changed_member_is_converted_first : shown (codes "var u, a = []; for (var i = 1; i < 33; i++) a = [a]; u[a] += 1;") 280 ≡
    faulted depth_fault 271 (made 0 (made_name 0 0) ∷ made 0 (made_name 0 1) ∷ made 0 (made_name 0 2) ∷ made 0 (made_name 0 3) ∷ made 0 (made_name 0 4) ∷
    made 0 (made_name 0 5) ∷ made 0 (made_name 0 6) ∷ made 0 (made_name 0 7) ∷ made 0 (made_name 0 8) ∷ made 0 (made_name 0 9) ∷ made 0 (made_name 0 10) ∷
    made 0 (made_name 0 11) ∷ made 0 (made_name 0 12) ∷ made 0 (made_name 0 13) ∷ made 0 (made_name 0 14) ∷ made 0 (made_name 0 15) ∷
    made 0 (made_name 0 16) ∷ made 0 (made_name 0 17) ∷ made 0 (made_name 0 18) ∷ made 0 (made_name 0 19) ∷ made 0 (made_name 0 20) ∷
    made 0 (made_name 0 21) ∷ made 0 (made_name 0 22) ∷ made 0 (made_name 0 23) ∷ made 0 (made_name 0 24) ∷ made 0 (made_name 0 25) ∷
    made 0 (made_name 0 26) ∷ made 0 (made_name 0 27) ∷ made 0 (made_name 0 28) ∷ made 0 (made_name 0 29) ∷ made 0 (made_name 0 30) ∷
    made 0 (made_name 0 31) ∷ made 0 (made_name 0 32) ∷ [])
unfolding quick_from longest body point look_up settle resume step all_of run_quickly misplaced declarations faults_in names_arguments free resolved text_within
the_key_of_a_changed_member_is_converted_first = refl
