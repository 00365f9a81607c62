-- What ends a run for good: numbers out of range, arrays nested too deep, no more steps.
use Rattle.std.proofs.Common.{◌≡◌, [], ◌∷◌, refl}
use Rattle.std.specs.Prelude.{codes, pos}
use Rattle.std.specs.Fmt.{digits}
use Rattle.plans.specs.Plans.{number_fault, depth_fault}
use Rattle.caja_units.specs.Index.{array_index}
use Rattle.es3_tokens.specs.Longest.{longest}
use Rattle.es3_tokens.specs.Texts.{body}
use Rattle.es3_tokens.specs.Cut.{point}
use Rattle.es3_tokens.specs.Quick.{quick_from}
use Rattle.es3_grammar.specs.Spots.{look_up}
use Rattle.es3_grammar.specs.Machine.{settle, resume, step, all_of}
use Rattle.es3_grammar.specs.Sums.{run_quickly}
use Rattle.es3_labels.specs.Misplaced.{misplaced}
use Rattle.cajita_names.specs.Declarations.{declarations}
use Rattle.cajita_rules.specs.Faults.{faults_in}
use Rattle.cajita_forms.specs.Arguments.{names_arguments}
use Rattle.scope_rules.specs.Free.{free}
use Rattle.scope_rules.specs.Resolve.{resolved}
use Rattle.rows.specs.Rows as r
use Rattle.rows.specs.Rows.{to_get, to_set, to_call}
use Rattle.rows.specs.Names.{of_math}
use Rattle.cajita_meaning.specs.World.{made_name, own_name, built_name, tools_name, undefined, number, text}
use Rattle.cajita_meaning.specs.Doing.{text_within}
use Rattle.cajita_meaning.specs.Direct.{gave, made, got, touched, said}
use Rattle.cajita_shown.specs.Shown.{came, faulted, spent, shown}

a_sum_out_of_range : shown (codes "9007199254740991 + 1;") 10 ≡
    faulted number_fault 5 []
unfolding quick_from longest body point look_up settle resume step all_of run_quickly misplaced declarations faults_in names_arguments free resolved
a_sum_out_of_range = refl

a_product_out_of_range : shown (codes "-9007199254740991 * 2;") 10 ≡
    faulted number_fault 6 []
unfolding quick_from longest body point look_up settle resume step all_of run_quickly misplaced declarations faults_in names_arguments free resolved
a_product_out_of_range = refl

a_fraction : shown (codes "6 / 4;") 10 ≡
    faulted number_fault 5 []
unfolding quick_from longest body look_up settle resume step all_of run_quickly misplaced declarations faults_in names_arguments free resolved
a_fraction = refl

a_division_by_zero : shown (codes "1 % 0;") 10 ≡
    faulted number_fault 5 []
unfolding quick_from longest body look_up settle resume step all_of run_quickly misplaced declarations faults_in names_arguments free resolved
a_division_by_zero = refl

a_text_that_is_no_number : shown (codes "'a' * 1;") 10 ≡
    faulted number_fault 5 []
unfolding quick_from longest body look_up settle resume step all_of run_quickly misplaced declarations faults_in names_arguments free resolved text_within
a_text_that_is_no_number = refl

undefined_is_no_number : shown (codes "var x; x += 1;") 10 ≡
    faulted number_fault 6 []
unfolding quick_from longest body look_up settle resume step all_of run_quickly misplaced declarations faults_in names_arguments free resolved
undefined_is_no_number = refl

a_fault_in_mid_expression : shown (codes "var o = {}; [o, 'x' < 1, {}];") 20 ≡
    faulted number_fault 10 (made 0 (made_name 0 0) ∷ [])
unfolding quick_from longest body look_up settle resume step all_of run_quickly misplaced declarations faults_in names_arguments free resolved text_within
a_fault_in_mid_expression = refl

pub a_fault_is_not_caught : shown (codes "try { say('a'); -{}; } catch (e) { say('b'); } finally { say('c'); }") 20 ≡
    faulted number_fault 11 (touched 0 to_call (own_name 0 0) [] ∷ said 0 (codes "a") ∷ made 0 (made_name 0 0) ∷ [])
unfolding quick_from longest body look_up settle resume step all_of run_quickly misplaced declarations faults_in names_arguments free resolved text_within
a_fault_is_not_caught = refl

a_step_out_of_range : shown (codes "var x = 9007199254740991; x++;") 10 ≡
    faulted number_fault 6 []
unfolding quick_from longest body point look_up settle resume step all_of run_quickly misplaced declarations faults_in names_arguments free resolved
a_step_out_of_range = refl

a_unit_outside_of_a_text : shown (codes "'ab'.charCodeAt(2);") 10 ≡
    faulted number_fault 6 (touched 0 to_call (built_name r.char_code_at) [] ∷ [])
unfolding quick_from longest body look_up settle resume step all_of run_quickly misplaced declarations faults_in names_arguments free resolved text_within
a_unit_outside_of_a_text = refl

no_greatest_of_nothing : shown (codes "Math.max();") 10 ≡
    faulted number_fault 6 (touched 0 to_get (tools_name of_math) (codes "max" ∷ []) ∷ got 0 (tools_name of_math) (built_name r.max) ∷
    touched 0 to_call (built_name r.max) [] ∷ [])
unfolding quick_from longest body look_up settle resume step all_of run_quickly misplaced declarations faults_in names_arguments free resolved text_within
no_greatest_of_nothing = refl

an_array_nested_32_deep_is_a_text : shown (codes "var a = []; for (var i = 1; i < 32; i++) a = [a]; a + 'x';") 270 ≡
    came (gave (text (codes "x"))) 262 (made 0 (made_name 0 0) ∷ made 0 (made_name 0 1) ∷ made 0 (made_name 0 2) ∷ made 0 (made_name 0 3) ∷
    made 0 (made_name 0 4) ∷ made 0 (made_name 0 5) ∷ made 0 (made_name 0 6) ∷ made 0 (made_name 0 7) ∷ made 0 (made_name 0 8) ∷ made 0 (made_name 0 9) ∷
    made 0 (made_name 0 10) ∷ made 0 (made_name 0 11) ∷ made 0 (made_name 0 12) ∷ made 0 (made_name 0 13) ∷ made 0 (made_name 0 14) ∷
    made 0 (made_name 0 15) ∷ made 0 (made_name 0 16) ∷ made 0 (made_name 0 17) ∷ made 0 (made_name 0 18) ∷ made 0 (made_name 0 19) ∷
    made 0 (made_name 0 20) ∷ made 0 (made_name 0 21) ∷ made 0 (made_name 0 22) ∷ made 0 (made_name 0 23) ∷ made 0 (made_name 0 24) ∷
    made 0 (made_name 0 25) ∷ made 0 (made_name 0 26) ∷ made 0 (made_name 0 27) ∷ made 0 (made_name 0 28) ∷ made 0 (made_name 0 29) ∷
    made 0 (made_name 0 30) ∷ made 0 (made_name 0 31) ∷ [])
unfolding quick_from longest body point look_up settle resume step all_of run_quickly misplaced declarations faults_in names_arguments free resolved text_within
an_array_nested_32_deep_is_a_text = refl

an_array_nested_33_deep_is_a_fault : shown (codes "var a = []; for (var i = 1; i < 33; i++) a = [a]; a + 'x';") 280 ≡
    faulted depth_fault 270 (made 0 (made_name 0 0) ∷ made 0 (made_name 0 1) ∷ made 0 (made_name 0 2) ∷ made 0 (made_name 0 3) ∷ made 0 (made_name 0 4) ∷
    made 0 (made_name 0 5) ∷ made 0 (made_name 0 6) ∷ made 0 (made_name 0 7) ∷ made 0 (made_name 0 8) ∷ made 0 (made_name 0 9) ∷ made 0 (made_name 0 10) ∷
    made 0 (made_name 0 11) ∷ made 0 (made_name 0 12) ∷ made 0 (made_name 0 13) ∷ made 0 (made_name 0 14) ∷ made 0 (made_name 0 15) ∷
    made 0 (made_name 0 16) ∷ made 0 (made_name 0 17) ∷ made 0 (made_name 0 18) ∷ made 0 (made_name 0 19) ∷ made 0 (made_name 0 20) ∷
    made 0 (made_name 0 21) ∷ made 0 (made_name 0 22) ∷ made 0 (made_name 0 23) ∷ made 0 (made_name 0 24) ∷ made 0 (made_name 0 25) ∷
    made 0 (made_name 0 26) ∷ made 0 (made_name 0 27) ∷ made 0 (made_name 0 28) ∷ made 0 (made_name 0 29) ∷ made 0 (made_name 0 30) ∷
    made 0 (made_name 0 31) ∷ made 0 (made_name 0 32) ∷ [])
unfolding quick_from longest body point look_up settle resume step all_of run_quickly misplaced declarations faults_in names_arguments free resolved text_within
an_array_nested_33_deep_is_a_fault = refl

a_deep_text_is_made_before_the_object_is_tested : shown (codes "var a = []; for (var i = 1; i < 33; i++) a = [a]; a in null;") 280 ≡
    faulted depth_fault 270 (made 0 (made_name 0 0) ∷ made 0 (made_name 0 1) ∷ made 0 (made_name 0 2) ∷ made 0 (made_name 0 3) ∷ made 0 (made_name 0 4) ∷
    made 0 (made_name 0 5) ∷ made 0 (made_name 0 6) ∷ made 0 (made_name 0 7) ∷ made 0 (made_name 0 8) ∷ made 0 (made_name 0 9) ∷ made 0 (made_name 0 10) ∷
    made 0 (made_name 0 11) ∷ made 0 (made_name 0 12) ∷ made 0 (made_name 0 13) ∷ made 0 (made_name 0 14) ∷ made 0 (made_name 0 15) ∷
    made 0 (made_name 0 16) ∷ made 0 (made_name 0 17) ∷ made 0 (made_name 0 18) ∷ made 0 (made_name 0 19) ∷ made 0 (made_name 0 20) ∷
    made 0 (made_name 0 21) ∷ made 0 (made_name 0 22) ∷ made 0 (made_name 0 23) ∷ made 0 (made_name 0 24) ∷ made 0 (made_name 0 25) ∷
    made 0 (made_name 0 26) ∷ made 0 (made_name 0 27) ∷ made 0 (made_name 0 28) ∷ made 0 (made_name 0 29) ∷ made 0 (made_name 0 30) ∷
    made 0 (made_name 0 31) ∷ made 0 (made_name 0 32) ∷ [])
unfolding quick_from longest body point look_up settle resume step all_of run_quickly misplaced declarations faults_in names_arguments free resolved text_within
a_deep_text_is_made_before_the_object_is_tested = refl

an_endless_loop_is_spent : shown (codes "while (true) {}") 12 ≡
    spent []
unfolding quick_from longest body look_up settle resume step all_of run_quickly misplaced declarations faults_in names_arguments free resolved
an_endless_loop_is_spent = refl

an_endless_recursion_is_spent : shown (codes "function f() { return f(); } f();") 12 ≡
    spent (made 0 (made_name 0 0) ∷ touched 0 to_call (made_name 0 0) [] ∷ touched 0 to_call (made_name 0 0) [] ∷
    touched 0 to_call (made_name 0 0) [] ∷ [])
unfolding quick_from longest body look_up settle resume step all_of run_quickly misplaced declarations faults_in names_arguments free resolved
an_endless_recursion_is_spent = refl

pub the_last_step_is_enough : shown (codes "var o = {x: 1}; o.x + 2;") 10 ≡
    came (gave (number (pos 3))) 10 (made 0 (made_name 0 0) ∷ touched 0 to_get (made_name 0 0) (codes "x" ∷ []) ∷ [])
unfolding quick_from longest body look_up settle resume step all_of run_quickly misplaced declarations faults_in names_arguments free resolved text_within
the_last_step_is_enough = refl

pub a_step_less_is_not_enough : shown (codes "var o = {x: 1}; o.x + 2;") 9 ≡
    spent (made 0 (made_name 0 0) ∷ touched 0 to_get (made_name 0 0) (codes "x" ∷ []) ∷ [])
unfolding quick_from longest body look_up settle resume step all_of run_quickly misplaced declarations faults_in names_arguments free resolved text_within
a_step_less_is_not_enough = refl

a_difference_out_of_range : shown (codes "-9007199254740991 - 1;") 10 ≡
    faulted number_fault 6 []
unfolding quick_from longest body point look_up settle resume step all_of run_quickly misplaced declarations faults_in names_arguments free resolved
a_difference_out_of_range = refl

the_number_of_undefined : shown (codes "Number(undefined);") 10 ≡
    faulted number_fault 8 (touched 0 to_call (built_name r.number_from) [] ∷ [])
unfolding quick_from longest body look_up settle resume step all_of run_quickly misplaced declarations faults_in names_arguments free resolved
the_number_of_undefined = refl

the_number_of_a_text : shown (codes "Number('1.5');") 10 ≡
    faulted number_fault 7 (touched 0 to_call (built_name r.number_from) [] ∷ [])
unfolding quick_from longest body look_up settle resume step all_of run_quickly misplaced declarations faults_in names_arguments free resolved text_within
the_number_of_a_text = refl

a_text_with_a_sign_in_it : shown (codes "+'1-2';") 10 ≡
    faulted number_fault 4 []
unfolding quick_from longest body look_up settle resume step all_of run_quickly misplaced declarations faults_in names_arguments free resolved text_within
a_text_with_a_sign_in_it = refl

a_comparison_without_a_number : shown (codes "undefined < 1;") 10 ≡
    faulted number_fault 6 []
unfolding quick_from longest body look_up settle resume step all_of run_quickly misplaced declarations faults_in names_arguments free resolved
a_comparison_without_a_number = refl

equality_without_a_number : shown (codes "1 == 'x';") 10 ≡
    faulted number_fault 5 []
unfolding quick_from longest body look_up settle resume step all_of run_quickly misplaced declarations faults_in names_arguments free resolved text_within
equality_without_a_number = refl

an_argument_without_a_number : shown (codes "Math.min(1, {});") 10 ≡
    faulted number_fault 8 (made 0 (made_name 0 0) ∷ touched 0 to_get (tools_name of_math) (codes "min" ∷ []) ∷
    got 0 (tools_name of_math) (built_name r.min) ∷ touched 0 to_call (built_name r.min) [] ∷ [])
unfolding quick_from longest body look_up settle resume step all_of run_quickly misplaced declarations faults_in names_arguments free resolved text_within
an_argument_without_a_number = refl

a_place_without_a_number : shown (codes "'abc'.charAt('x');") 10 ≡
    faulted number_fault 6 (touched 0 to_call (built_name r.char_at) [] ∷ [])
unfolding quick_from longest body look_up settle resume step all_of run_quickly misplaced declarations faults_in names_arguments free resolved text_within
a_place_without_a_number = refl

a_unit_before_a_text : shown (codes "'ab'.charCodeAt(-1);") 10 ≡
    faulted number_fault 7 (touched 0 to_call (built_name r.char_code_at) [] ∷ [])
unfolding quick_from longest body look_up settle resume step all_of run_quickly misplaced declarations faults_in names_arguments free resolved text_within
a_unit_before_a_text = refl

a_fault_within_calls : shown (codes "function f(x) { return [{}, x / 2]; } f(1);") 20 ≡
    faulted number_fault 13 (made 0 (made_name 0 0) ∷ touched 0 to_call (made_name 0 0) [] ∷ made 0 (made_name 0 1) ∷ [])
unfolding quick_from longest body look_up settle resume step all_of run_quickly misplaced declarations faults_in names_arguments free resolved
a_fault_within_calls = refl

the_depth_of_a_join : shown (codes "var a = []; for (var i = 1; i < 33; i++) a = [a]; a.join();") 280 ≡
    faulted depth_fault 270 (made 0 (made_name 0 0) ∷ made 0 (made_name 0 1) ∷ made 0 (made_name 0 2) ∷ made 0 (made_name 0 3) ∷ made 0 (made_name 0 4) ∷
    made 0 (made_name 0 5) ∷ made 0 (made_name 0 6) ∷ made 0 (made_name 0 7) ∷ made 0 (made_name 0 8) ∷ made 0 (made_name 0 9) ∷ made 0 (made_name 0 10) ∷
    made 0 (made_name 0 11) ∷ made 0 (made_name 0 12) ∷ made 0 (made_name 0 13) ∷ made 0 (made_name 0 14) ∷ made 0 (made_name 0 15) ∷
    made 0 (made_name 0 16) ∷ made 0 (made_name 0 17) ∷ made 0 (made_name 0 18) ∷ made 0 (made_name 0 19) ∷ made 0 (made_name 0 20) ∷
    made 0 (made_name 0 21) ∷ made 0 (made_name 0 22) ∷ made 0 (made_name 0 23) ∷ made 0 (made_name 0 24) ∷ made 0 (made_name 0 25) ∷
    made 0 (made_name 0 26) ∷ made 0 (made_name 0 27) ∷ made 0 (made_name 0 28) ∷ made 0 (made_name 0 29) ∷ made 0 (made_name 0 30) ∷
    made 0 (made_name 0 31) ∷ made 0 (made_name 0 32) ∷ touched 0 to_get (made_name 0 32) (codes "join" ∷ []) ∷
    got 0 (made_name 0 32) (built_name r.join) ∷ touched 0 to_call (built_name r.join) [] ∷ [])
unfolding quick_from longest body point look_up settle resume step all_of run_quickly misplaced declarations faults_in names_arguments free resolved text_within digits array_index
the_depth_of_a_join = refl

an_array_in_itself_has_no_text : shown (codes "var a = []; a[0] = a; String(a);") 20 ≡
    faulted depth_fault 15 (made 0 (made_name 0 0) ∷ touched 0 to_set (made_name 0 0) (codes "0" ∷ []) ∷
    touched 0 to_call (built_name r.text_from) [] ∷ [])
unfolding quick_from longest body look_up settle resume step all_of run_quickly misplaced declarations faults_in names_arguments free resolved text_within digits array_index
an_array_in_itself_has_no_text = refl

no_rounding_of_a_fraction : shown (codes "Math.floor('1.5');") 10 ≡
    faulted number_fault 7 (touched 0 to_get (tools_name of_math) (codes "floor" ∷ []) ∷ got 0 (tools_name of_math) (built_name r.floor) ∷
    touched 0 to_call (built_name r.floor) [] ∷ [])
unfolding quick_from longest body look_up settle resume step all_of run_quickly misplaced declarations faults_in names_arguments free resolved text_within
no_rounding_of_a_fraction = refl

a_sign_alone_is_no_number : shown (codes "Number('+');") 10 ≡
    faulted number_fault 7 (touched 0 to_call (built_name r.number_from) [] ∷ [])
unfolding quick_from longest body look_up settle resume step all_of run_quickly misplaced declarations faults_in names_arguments free resolved text_within
a_sign_alone_is_no_number = refl

two_texts_are_joined_and_not_added : shown (codes "-('1' + '2') - 'x';") 10 ≡
    faulted number_fault 8 []
unfolding quick_from longest body look_up settle resume step all_of run_quickly misplaced declarations faults_in names_arguments free resolved text_within
two_texts_are_joined_and_not_added = refl

without_a_step_nothing_is_loaded : shown (codes "") 10 ≡
    came (gave undefined) 1 []
unfolding quick_from longest body look_up settle resume step all_of run_quickly misplaced declarations faults_in names_arguments free resolved
without_a_step_nothing_is_loaded = refl

fifty_five_empty_statements_take_fifty_six_steps : shown (codes ";;;;;;;;;;;;;;;;;;;;;;;;;;;;;;;;;;;;;;;;;;;;;;;;;;;;;;;") 56 ≡
    came (gave undefined) 56 []
unfolding quick_from longest body look_up settle resume step all_of run_quickly misplaced declarations faults_in names_arguments free resolved
fifty_five_empty_statements_take_fifty_six_steps = refl

fifty_five_empty_statements_do_not_take_fewer : shown (codes ";;;;;;;;;;;;;;;;;;;;;;;;;;;;;;;;;;;;;;;;;;;;;;;;;;;;;;;") 55 ≡
    spent []
unfolding quick_from longest body look_up settle resume step all_of run_quickly misplaced declarations faults_in names_arguments free resolved
fifty_five_empty_statements_do_not_take_fewer = refl
