-- Calls, method calls and `new`, and in which order their parts are evaluated.
use Rattle.std.proofs.Common.{◌≡◌, [], ◌∷◌, refl}
use Rattle.std.specs.Prelude.{codes, pos, true, false}
use Rattle.std.specs.Fmt.{digits}
use Rattle.caja_units.specs.Index.{array_index}
use Rattle.es3_tokens.specs.Longest.{longest}
use Rattle.es3_tokens.specs.Texts.{body}
use Rattle.es3_tokens.specs.Quick.{quick_from}
use Rattle.es3_grammar.specs.Spots.{look_up}
use Rattle.es3_grammar.specs.Machine.{settle, resume, step, all_of}
use Rattle.es3_grammar.specs.Sums.{run_quickly}
use Rattle.es3_labels.specs.Misplaced.{misplaced}
use Rattle.cajita_names.specs.Declarations.{declarations}
use Rattle.cajita_rules.specs.Faults.{faults_in}
use Rattle.cajita_forms.specs.Arguments.{names_arguments}
use Rattle.scope_rules.specs.Free.{free}
use Rattle.scope_rules.specs.Resolve.{resolved}
use Rattle.rows.specs.Rows as r
use Rattle.rows.specs.Rows.{to_get, to_set, to_new, to_call}
use Rattle.rows.specs.Names.{of_cajita, of_math}
use Rattle.cajita_meaning.specs.World.{made_name, own_name, built_name, tools_name, undefined, truth, number, text, object}
use Rattle.cajita_meaning.specs.Doing.{text_within}
use Rattle.cajita_meaning.specs.Direct.{gave, threw, made, got, touched, passed}
use Rattle.cajita_shown.specs.Shown.{came, shown}

a_call_binds_its_parameters : shown (codes "function f(a, b) { return [a, b]; } f(1).length;") 20 ≡
    came (gave (number (pos 2))) 13 (made 0 (made_name 0 0) ∷ touched 0 to_call (made_name 0 0) [] ∷ made 0 (made_name 0 1) ∷ passed 0 0 (made_name 0 1) ∷
    touched 0 to_get (made_name 0 1) (codes "length" ∷ []) ∷ [])
unfolding quick_from longest body look_up settle resume step all_of run_quickly misplaced declarations faults_in names_arguments free resolved text_within
a_call_binds_its_parameters = refl

pub a_method_call_looks_the_method_up_last : shown (codes "var o = {}; var t = 'a'; try { o.f(t += 'b'); } catch (e) { t += e.message; } t;") 20 ≡
    came (gave (text (codes "abnot a function"))) 19 (made 0 (made_name 0 0) ∷ touched 0 to_get (made_name 0 0) (codes "f" ∷ []) ∷
    made 0 (made_name 0 1) ∷ touched 0 to_get (made_name 0 1) (codes "message" ∷ []) ∷ [])
unfolding quick_from longest body look_up settle resume step all_of run_quickly misplaced declarations faults_in names_arguments free resolved text_within
a_method_call_looks_the_method_up_last = refl

a_method_call_finds_what_its_arguments_wrote : shown (codes "var o = {}; o.f(o.f = function (x) { return 3; });") 20 ≡
    came (gave (number (pos 3))) 13 (made 0 (made_name 0 0) ∷ made 0 (made_name 0 1) ∷ touched 0 to_set (made_name 0 0) (codes "f" ∷ []) ∷
    touched 0 to_get (made_name 0 0) (codes "f" ∷ []) ∷ got 0 (made_name 0 0) (made_name 0 1) ∷ touched 0 to_call (made_name 0 1) [] ∷
    passed 0 0 (made_name 0 1) ∷ [])
unfolding quick_from longest body look_up settle resume step all_of run_quickly misplaced declarations faults_in names_arguments free resolved text_within
a_method_call_finds_what_its_arguments_wrote = refl

a_method_by_a_computed_key : shown (codes "var o = {f: function (x) { return x + 1; }}; o['f'](2);") 20 ≡
    came (gave (number (pos 3))) 15 (made 0 (made_name 0 0) ∷ made 0 (made_name 0 1) ∷ touched 0 to_get (made_name 0 1) (codes "f" ∷ []) ∷
    got 0 (made_name 0 1) (made_name 0 0) ∷ touched 0 to_call (made_name 0 0) [] ∷ [])
unfolding quick_from longest body look_up settle resume step all_of run_quickly misplaced declarations faults_in names_arguments free resolved text_within
a_method_by_a_computed_key = refl

pub a_callee_is_tested_before_its_arguments : shown (codes "var f; var t = 'no'; try { f(t = 'yes'); } catch (e) { t += e.message; } t;") 20 ≡
    came (gave (text (codes "nonot a function"))) 16 (made 0 (made_name 0 0) ∷ touched 0 to_get (made_name 0 0) (codes "message" ∷ []) ∷ [])
unfolding quick_from longest body look_up settle resume step all_of run_quickly misplaced declarations faults_in names_arguments free resolved text_within
a_callee_is_tested_before_its_arguments = refl

pub a_method_of_arrays_is_not_called_plainly : shown (codes "var p = [].push; var t = 0; try { p(t = 1); } catch (e) { t += e.message; } [1].push(2) + t;") 30 ≡
    came (gave (text (codes "20bad receiver"))) 24 (made 0 (made_name 0 0) ∷ touched 0 to_get (made_name 0 0) (codes "push" ∷ []) ∷
    got 0 (made_name 0 0) (built_name r.push) ∷ made 0 (made_name 0 1) ∷ touched 0 to_get (made_name 0 1) (codes "message" ∷ []) ∷
    made 0 (made_name 0 2) ∷ touched 0 to_get (made_name 0 2) (codes "push" ∷ []) ∷ got 0 (made_name 0 2) (built_name r.push) ∷
    touched 0 to_call (built_name r.push) [] ∷ [])
unfolding quick_from longest body look_up settle resume step all_of run_quickly misplaced declarations faults_in names_arguments free resolved text_within digits array_index
a_method_of_arrays_is_not_called_plainly = refl

new_makes_an_error : shown (codes "var e = new TypeError('m'); [e.name, e.message, e instanceof TypeError, e instanceof Error, e instanceof RangeError].join();") 30 ≡
    came (gave (text (codes "TypeError,m,true,true,false"))) 27 (touched 0 to_new (built_name (r.makes r.type_error)) [] ∷ made 0 (made_name 0 0) ∷
    touched 0 to_get (made_name 0 0) (codes "name" ∷ []) ∷ touched 0 to_get (made_name 0 0) (codes "message" ∷ []) ∷ made 0 (made_name 0 1) ∷
    touched 0 to_get (made_name 0 1) (codes "join" ∷ []) ∷ got 0 (made_name 0 1) (built_name r.join) ∷ touched 0 to_call (built_name r.join) [] ∷ [])
unfolding quick_from longest body look_up settle resume step all_of run_quickly misplaced declarations faults_in names_arguments free resolved text_within digits array_index
new_makes_an_error = refl

new_tests_its_callee_after_its_arguments : shown (codes "function f() { } var t = 'no'; try { new f(t = 'yes'); } catch (e) { t += e.message; } t;") 20 ≡
    came (gave (text (codes "yesnot a constructor"))) 17 (made 0 (made_name 0 0) ∷ touched 0 to_new (made_name 0 0) [] ∷ made 0 (made_name 0 1) ∷
    touched 0 to_get (made_name 0 1) (codes "message" ∷ []) ∷ [])
unfolding quick_from longest body look_up settle resume step all_of run_quickly misplaced declarations faults_in names_arguments free resolved text_within
new_tests_its_callee_after_its_arguments = refl

new_of_no_function : shown (codes "new (5)([]);") 10 ≡
    came (threw (object (made_name 0 1))) 5 (made 0 (made_name 0 0) ∷ made 0 (made_name 0 1) ∷ [])
unfolding quick_from longest body look_up settle resume step all_of run_quickly misplaced declarations faults_in names_arguments free resolved
new_of_no_function = refl

a_constructor_is_called_plainly : shown (codes "Error([1, 2]).message;") 20 ≡
    came (gave (text (codes "1,2"))) 10 (made 0 (made_name 0 0) ∷ touched 0 to_call (built_name (r.makes r.error)) [] ∷ made 0 (made_name 0 1) ∷
    touched 0 to_get (made_name 0 1) (codes "message" ∷ []) ∷ [])
unfolding quick_from longest body look_up settle resume step all_of run_quickly misplaced declarations faults_in names_arguments free resolved text_within digits
a_constructor_is_called_plainly = refl

call_passes_no_receiver : shown (codes "function f(a, b) { return b; } f.call({}, 1, [2]);") 20 ≡
    came (gave (object (made_name 0 2))) 14 (made 0 (made_name 0 0) ∷ made 0 (made_name 0 1) ∷ made 0 (made_name 0 2) ∷
    touched 0 to_get (made_name 0 0) (codes "call" ∷ []) ∷ got 0 (made_name 0 0) (built_name r.call) ∷ touched 0 to_call (built_name r.call) [] ∷
    touched 0 to_call (made_name 0 0) [] ∷ passed 0 0 (made_name 0 2) ∷ passed 0 0 (made_name 0 2) ∷ [])
unfolding quick_from longest body look_up settle resume step all_of run_quickly misplaced declarations faults_in names_arguments free resolved text_within
call_passes_no_receiver = refl

apply_passes_the_items : shown (codes "function f(a, b) { return b; } f.apply(null, [1, {}]);") 20 ≡
    came (gave (object (made_name 0 1))) 14 (made 0 (made_name 0 0) ∷ made 0 (made_name 0 1) ∷ made 0 (made_name 0 2) ∷
    touched 0 to_get (made_name 0 0) (codes "apply" ∷ []) ∷ got 0 (made_name 0 0) (built_name r.apply) ∷ touched 0 to_call (built_name r.apply) [] ∷
    got 0 (made_name 0 2) (made_name 0 1) ∷ touched 0 to_call (made_name 0 0) [] ∷ passed 0 0 (made_name 0 1) ∷ passed 0 0 (made_name 0 1) ∷ [])
unfolding quick_from longest body look_up settle resume step all_of run_quickly misplaced declarations faults_in names_arguments free resolved text_within
apply_passes_the_items = refl

apply_without_a_list : shown (codes "function f() { return arguments.length; } [f.apply(1), f.apply(1, null)].join();") 30 ≡
    came (gave (text (codes "0,0"))) 23 (made 0 (made_name 0 0) ∷ touched 0 to_get (made_name 0 0) (codes "apply" ∷ []) ∷
    got 0 (made_name 0 0) (built_name r.apply) ∷ touched 0 to_call (built_name r.apply) [] ∷ touched 0 to_call (made_name 0 0) [] ∷
    made 0 (made_name 0 1) ∷ touched 0 to_get (made_name 0 1) (codes "length" ∷ []) ∷ touched 0 to_get (made_name 0 0) (codes "apply" ∷ []) ∷
    got 0 (made_name 0 0) (built_name r.apply) ∷ touched 0 to_call (built_name r.apply) [] ∷ touched 0 to_call (made_name 0 0) [] ∷
    made 0 (made_name 0 2) ∷ touched 0 to_get (made_name 0 2) (codes "length" ∷ []) ∷ made 0 (made_name 0 3) ∷
    touched 0 to_get (made_name 0 3) (codes "join" ∷ []) ∷ got 0 (made_name 0 3) (built_name r.join) ∷ touched 0 to_call (built_name r.join) [] ∷ [])
unfolding quick_from longest body look_up settle resume step all_of run_quickly misplaced declarations faults_in names_arguments free resolved text_within digits array_index
apply_without_a_list = refl

apply_wants_an_array : shown (codes "function f() { } f.apply(1, {length: 0});") 10 ≡
    came (threw (object (made_name 0 2))) 9 (made 0 (made_name 0 0) ∷ made 0 (made_name 0 1) ∷ touched 0 to_get (made_name 0 0) (codes "apply" ∷ []) ∷
    got 0 (made_name 0 0) (built_name r.apply) ∷ touched 0 to_call (built_name r.apply) [] ∷ made 0 (made_name 0 2) ∷ [])
unfolding quick_from longest body look_up settle resume step all_of run_quickly misplaced declarations faults_in names_arguments free resolved text_within
apply_wants_an_array = refl

call_of_a_method_with_a_receiver : shown (codes "var a = [7]; [].push.call(a, 8) + a.join();") 20 ≡
    came (gave (text (codes "27,8"))) 17 (made 0 (made_name 0 0) ∷ made 0 (made_name 0 1) ∷ touched 0 to_get (made_name 0 1) (codes "push" ∷ []) ∷
    got 0 (made_name 0 1) (built_name r.push) ∷ touched 0 to_get (built_name r.push) (codes "call" ∷ []) ∷ got 0 (built_name r.push) (built_name r.call) ∷
    touched 0 to_call (built_name r.call) [] ∷ touched 0 to_call (built_name r.push) [] ∷ touched 0 to_get (made_name 0 0) (codes "join" ∷ []) ∷
    got 0 (made_name 0 0) (built_name r.join) ∷ touched 0 to_call (built_name r.join) [] ∷ [])
unfolding quick_from longest body look_up settle resume step all_of run_quickly misplaced declarations faults_in names_arguments free resolved text_within digits array_index
call_of_a_method_with_a_receiver = refl

call_of_a_method_with_a_bad_receiver : shown (codes "[].push.call({}, 8);") 10 ≡
    came (threw (object (made_name 0 2))) 9 (made 0 (made_name 0 0) ∷ touched 0 to_get (made_name 0 0) (codes "push" ∷ []) ∷
    got 0 (made_name 0 0) (built_name r.push) ∷ made 0 (made_name 0 1) ∷ touched 0 to_get (built_name r.push) (codes "call" ∷ []) ∷
    got 0 (built_name r.push) (built_name r.call) ∷ touched 0 to_call (built_name r.call) [] ∷ touched 0 to_call (built_name r.push) [] ∷
    made 0 (made_name 0 2) ∷ [])
unfolding quick_from longest body look_up settle resume step all_of run_quickly misplaced declarations faults_in names_arguments free resolved text_within digits array_index
call_of_a_method_with_a_bad_receiver = refl

a_function_returns_undefined_at_its_end : shown (codes "function f() { 5; } f();") 10 ≡
    came (gave undefined) 7 (made 0 (made_name 0 0) ∷ touched 0 to_call (made_name 0 0) [] ∷ [])
unfolding quick_from longest body look_up settle resume step all_of run_quickly misplaced declarations faults_in names_arguments free resolved
a_function_returns_undefined_at_its_end = refl

a_function_without_a_value_returned : shown (codes "function f() { return; 5; } f(1);") 10 ≡
    came (gave undefined) 7 (made 0 (made_name 0 0) ∷ touched 0 to_call (made_name 0 0) [] ∷ [])
unfolding quick_from longest body look_up settle resume step all_of run_quickly misplaced declarations faults_in names_arguments free resolved
a_function_without_a_value_returned = refl

new_without_arguments : shown (codes "(new RangeError).message === '';") 10 ≡
    came (gave (truth true)) 9 (touched 0 to_new (built_name (r.makes r.range_error)) [] ∷ made 0 (made_name 0 0) ∷
    touched 0 to_get (made_name 0 0) (codes "message" ∷ []) ∷ [])
unfolding quick_from longest body look_up settle resume step all_of run_quickly misplaced declarations faults_in names_arguments free resolved text_within
new_without_arguments = refl

call_of_a_tool_drops_the_receiver : shown (codes "cajita.isArray.call([], {});") 20 ≡
    came (gave (truth false)) 10 (touched 0 to_get (tools_name of_cajita) (codes "isArray" ∷ []) ∷ got 0 (tools_name of_cajita) (built_name r.is_array) ∷
    made 0 (made_name 0 0) ∷ made 0 (made_name 0 1) ∷ touched 0 to_get (built_name r.is_array) (codes "call" ∷ []) ∷
    got 0 (built_name r.is_array) (built_name r.call) ∷ touched 0 to_call (built_name r.call) [] ∷ touched 0 to_call (built_name r.is_array) [] ∷ [])
unfolding quick_from longest body look_up settle resume step all_of run_quickly misplaced declarations faults_in names_arguments free resolved text_within
call_of_a_tool_drops_the_receiver = refl

a_tool_as_a_method_of_a_record : shown (codes "var o = {f: cajita.isRecord}; o.f([]);") 20 ≡
    came (gave (truth false)) 12 (touched 0 to_get (tools_name of_cajita) (codes "isRecord" ∷ []) ∷
    got 0 (tools_name of_cajita) (built_name r.is_record) ∷ made 0 (made_name 0 0) ∷ made 0 (made_name 0 1) ∷
    touched 0 to_get (made_name 0 0) (codes "f" ∷ []) ∷ got 0 (made_name 0 0) (built_name r.is_record) ∷
    touched 0 to_call (built_name r.is_record) [] ∷ [])
unfolding quick_from longest body look_up settle resume step all_of run_quickly misplaced declarations faults_in names_arguments free resolved text_within
a_tool_as_a_method_of_a_record = refl

apply_of_a_method : shown (codes "var a = [1]; a.push.apply(a, [2, 3]); a.join();") 20 ≡
    came (gave (text (codes "1,2,3"))) 19 (made 0 (made_name 0 0) ∷ touched 0 to_get (made_name 0 0) (codes "push" ∷ []) ∷
    got 0 (made_name 0 0) (built_name r.push) ∷ made 0 (made_name 0 1) ∷ touched 0 to_get (built_name r.push) (codes "apply" ∷ []) ∷
    got 0 (built_name r.push) (built_name r.apply) ∷ touched 0 to_call (built_name r.apply) [] ∷ touched 0 to_call (built_name r.push) [] ∷
    touched 0 to_get (made_name 0 0) (codes "join" ∷ []) ∷ got 0 (made_name 0 0) (built_name r.join) ∷ touched 0 to_call (built_name r.join) [] ∷ [])
unfolding quick_from longest body look_up settle resume step all_of run_quickly misplaced declarations faults_in names_arguments free resolved text_within digits array_index
apply_of_a_method = refl

apply_of_a_tool : shown (codes "Math.max.apply(null, [1, 5, 2]);") 20 ≡
    came (gave (number (pos 5))) 13 (touched 0 to_get (tools_name of_math) (codes "max" ∷ []) ∷ got 0 (tools_name of_math) (built_name r.max) ∷
    made 0 (made_name 0 0) ∷ touched 0 to_get (built_name r.max) (codes "apply" ∷ []) ∷ got 0 (built_name r.max) (built_name r.apply) ∷
    touched 0 to_call (built_name r.apply) [] ∷ touched 0 to_call (built_name r.max) [] ∷ [])
unfolding quick_from longest body look_up settle resume step all_of run_quickly misplaced declarations faults_in names_arguments free resolved text_within
apply_of_a_tool = refl

call_of_a_constructor : shown (codes "Error.call(1, 'm').message;") 20 ≡
    came (gave (text (codes "m"))) 10 (touched 0 to_get (built_name (r.makes r.error)) (codes "call" ∷ []) ∷
    got 0 (built_name (r.makes r.error)) (built_name r.call) ∷ touched 0 to_call (built_name r.call) [] ∷
    touched 0 to_call (built_name (r.makes r.error)) [] ∷ made 0 (made_name 0 0) ∷ touched 0 to_get (made_name 0 0) (codes "message" ∷ []) ∷ [])
unfolding quick_from longest body look_up settle resume step all_of run_quickly misplaced declarations faults_in names_arguments free resolved text_within
call_of_a_constructor = refl

call_of_no_function : shown (codes "say.call.call(5);") 10 ≡
    came (threw (object (made_name 0 0))) 9 (touched 0 to_get (own_name 0 0) (codes "call" ∷ []) ∷ got 0 (own_name 0 0) (built_name r.call) ∷
    touched 0 to_get (built_name r.call) (codes "call" ∷ []) ∷ got 0 (built_name r.call) (built_name r.call) ∷ touched 0 to_call (built_name r.call) [] ∷
    touched 0 to_call (built_name r.call) [] ∷ made 0 (made_name 0 0) ∷ [])
unfolding quick_from longest body look_up settle resume step all_of run_quickly misplaced declarations faults_in names_arguments free resolved text_within
call_of_no_function = refl

apply_of_no_function : shown (codes "say.apply.call({});") 10 ≡
    came (threw (object (made_name 0 1))) 9 (touched 0 to_get (own_name 0 0) (codes "apply" ∷ []) ∷ got 0 (own_name 0 0) (built_name r.apply) ∷
    made 0 (made_name 0 0) ∷ touched 0 to_get (built_name r.apply) (codes "call" ∷ []) ∷ got 0 (built_name r.apply) (built_name r.call) ∷
    touched 0 to_call (built_name r.call) [] ∷ touched 0 to_call (built_name r.apply) [] ∷ made 0 (made_name 0 1) ∷ [])
unfolding quick_from longest body look_up settle resume step all_of run_quickly misplaced declarations faults_in names_arguments free resolved text_within
apply_of_no_function = refl

call_of_itself : shown (codes "function f(a) { return a; } f.call.call(f, 1, 2);") 20 ≡
    came (gave (number (pos 2))) 14 (made 0 (made_name 0 0) ∷ touched 0 to_get (made_name 0 0) (codes "call" ∷ []) ∷
    got 0 (made_name 0 0) (built_name r.call) ∷ touched 0 to_get (built_name r.call) (codes "call" ∷ []) ∷ got 0 (built_name r.call) (built_name r.call) ∷
    touched 0 to_call (built_name r.call) [] ∷ touched 0 to_call (built_name r.call) [] ∷ touched 0 to_call (made_name 0 0) [] ∷ [])
unfolding quick_from longest body look_up settle resume step all_of run_quickly misplaced declarations faults_in names_arguments free resolved text_within
call_of_itself = refl

say_is_not_a_constructor : shown (codes "new say(1);") 10 ≡
    came (threw (object (made_name 0 0))) 6 (touched 0 to_new (own_name 0 0) [] ∷ made 0 (made_name 0 0) ∷ [])
unfolding quick_from longest body look_up settle resume step all_of run_quickly misplaced declarations faults_in names_arguments free resolved
say_is_not_a_constructor = refl

a_method_that_is_no_function : shown (codes "var o = {f: {}}; o.f([]);") 10 ≡
    came (threw (object (made_name 0 3))) 9 (made 0 (made_name 0 0) ∷ made 0 (made_name 0 1) ∷ made 0 (made_name 0 2) ∷
    touched 0 to_get (made_name 0 1) (codes "f" ∷ []) ∷ made 0 (made_name 0 3) ∷ [])
unfolding quick_from longest body look_up settle resume step all_of run_quickly misplaced declarations faults_in names_arguments free resolved text_within
a_method_that_is_no_function = refl

a_method_of_null : shown (codes "var t = 'a'; try { null.f(t += 'b'); } catch (e) { t += e.message; } t;") 20 ≡
    came (gave (text (codes "abno object"))) 16 (made 0 (made_name 0 0) ∷ touched 0 to_get (made_name 0 0) (codes "message" ∷ []) ∷ [])
unfolding quick_from longest body look_up settle resume step all_of run_quickly misplaced declarations faults_in names_arguments free resolved text_within
a_method_of_null = refl

a_method_of_a_number : shown (codes "(5).f();") 10 ≡
    came (threw (object (made_name 0 0))) 4 (made 0 (made_name 0 0) ∷ [])
unfolding quick_from longest body look_up settle resume step all_of run_quickly misplaced declarations faults_in names_arguments free resolved text_within
a_method_of_a_number = refl

a_function_is_called_with_too_many_arguments : shown (codes "(function (a) { return a; })(1, {}, []);") 20 ≡
    came (gave (number (pos 1))) 10 (made 0 (made_name 0 0) ∷ made 0 (made_name 0 1) ∷ made 0 (made_name 0 2) ∷ touched 0 to_call (made_name 0 0) [] ∷
    passed 0 0 (made_name 0 1) ∷ passed 0 0 (made_name 0 2) ∷ [])
unfolding quick_from longest body look_up settle resume step all_of run_quickly misplaced declarations faults_in names_arguments free resolved
a_function_is_called_with_too_many_arguments = refl

a_call_of_what_a_call_gave : shown (codes "function f() { return function (x) { return x; }; } f()(3);") 20 ≡
    came (gave (number (pos 3))) 12 (made 0 (made_name 0 0) ∷ touched 0 to_call (made_name 0 0) [] ∷ made 0 (made_name 0 1) ∷ passed 0 0 (made_name 0 1) ∷
    touched 0 to_call (made_name 0 1) [] ∷ [])
unfolding quick_from longest body look_up settle resume step all_of run_quickly misplaced declarations faults_in names_arguments free resolved
a_call_of_what_a_call_gave = refl

a_method_of_arrays_needs_its_array : shown (codes "var p = [].push; var t = 0; try { p(1); } catch (e) { t = e.message; } [1].push(2) + t;") 30 ≡
    came (gave (text (codes "2bad receiver"))) 24 (made 0 (made_name 0 0) ∷ touched 0 to_get (made_name 0 0) (codes "push" ∷ []) ∷
    got 0 (made_name 0 0) (built_name r.push) ∷ made 0 (made_name 0 1) ∷ touched 0 to_get (made_name 0 1) (codes "message" ∷ []) ∷
    made 0 (made_name 0 2) ∷ touched 0 to_get (made_name 0 2) (codes "push" ∷ []) ∷ got 0 (made_name 0 2) (built_name r.push) ∷
    touched 0 to_call (built_name r.push) [] ∷ [])
unfolding quick_from longest body look_up settle resume step all_of run_quickly misplaced declarations faults_in names_arguments free resolved text_within digits array_index
a_method_of_arrays_needs_its_array = refl

arguments_are_handed_on_by_apply : shown (codes "function f() { return g.apply(null, arguments); } function g(a, b) { return b; } f(1, {});") 20 ≡
    came (gave (object (made_name 0 2))) 19 (made 0 (made_name 0 0) ∷ made 0 (made_name 0 1) ∷ made 0 (made_name 0 2) ∷
    touched 0 to_call (made_name 0 0) [] ∷ passed 0 0 (made_name 0 2) ∷ made 0 (made_name 0 3) ∷ touched 0 to_get (made_name 0 1) (codes "apply" ∷ []) ∷
    got 0 (made_name 0 1) (built_name r.apply) ∷ touched 0 to_call (built_name r.apply) [] ∷ got 0 (made_name 0 3) (made_name 0 2) ∷
    touched 0 to_call (made_name 0 1) [] ∷ passed 0 0 (made_name 0 2) ∷ passed 0 0 (made_name 0 2) ∷ passed 0 0 (made_name 0 2) ∷ [])
unfolding quick_from longest body look_up settle resume step all_of run_quickly misplaced declarations faults_in names_arguments free resolved text_within
arguments_are_handed_on_by_apply = refl

new_of_no_function_evaluates_its_arguments : shown (codes "var t = 'no'; try { new null(t = 'yes'); } catch (e) { t += e.message; } t;") 20 ≡
    came (gave (text (codes "yesnot a constructor"))) 16 (made 0 (made_name 0 0) ∷ touched 0 to_get (made_name 0 0) (codes "message" ∷ []) ∷ [])
unfolding quick_from longest body look_up settle resume step all_of run_quickly misplaced declarations faults_in names_arguments free resolved text_within
new_of_no_function_evaluates_its_arguments = refl
