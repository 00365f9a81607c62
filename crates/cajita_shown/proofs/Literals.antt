-- Literals, names, functions as values, `arguments`, and what a load gives.
use Rattle.std.proofs.Common.{◌≡◌, [], ◌∷◌, refl}
use Rattle.std.specs.Prelude.{codes, pos}
use Rattle.std.specs.Fmt.{digits}
use Rattle.caja_units.specs.Index.{array_index}
use Rattle.es3_tokens.specs.Longest.{longest}
use Rattle.es3_tokens.specs.Texts.{body}
use Rattle.es3_tokens.specs.Cut.{point}
use Rattle.es3_tokens.specs.Quick.{quick_from}
use Rattle.es3_grammar.specs.Spots.{look_up}
use Rattle.es3_grammar.specs.Machine.{settle, resume, step, all_of}
use Rattle.es3_grammar.specs.Sums.{run_quickly}
use Rattle.es3_labels.specs.Misplaced.{misplaced}
use Rattle.cajita_names.specs.Declarations.{declarations}
use Rattle.cajita_rules.specs.Faults.{faults_in}
use Rattle.cajita_forms.specs.Arguments.{names_arguments}
use Rattle.scope_rules.specs.Free.{free}
use Rattle.scope_rules.specs.Resolve.{resolved}
use Rattle.rows.specs.Rows as r
use Rattle.rows.specs.Rows.{to_get, to_set, to_call}
use Rattle.rows.specs.Names.{of_cajita}
use Rattle.cajita_meaning.specs.World.{made_name, built_name, tools_name, undefined, number, text, object}
use Rattle.cajita_meaning.specs.Doing.{text_within}
use Rattle.cajita_meaning.specs.Direct.{gave, threw, made, got, touched, passed}
use Rattle.cajita_shown.specs.Shown.{came, shown}

each_literal_gives_its_value : shown (codes "null; true; false; 7; 0x1F; 'ab';") 20 ≡
    came (gave (text (codes "ab"))) 13 []
unfolding quick_from longest body point look_up settle resume step all_of run_quickly misplaced declarations faults_in names_arguments free resolved
each_literal_gives_its_value = refl

undefined_is_an_import : shown (codes "undefined;") 10 ≡
    came (gave undefined) 4 []
unfolding quick_from longest body look_up settle resume step all_of run_quickly misplaced declarations faults_in names_arguments free resolved
undefined_is_an_import = refl

an_array_is_made_after_its_items : shown (codes "[1, [2, 'x'], {}];") 10 ≡
    came (gave (object (made_name 0 2))) 8 (made 0 (made_name 0 0) ∷ made 0 (made_name 0 1) ∷ made 0 (made_name 0 2) ∷ [])
unfolding quick_from longest body look_up settle resume step all_of run_quickly misplaced declarations faults_in names_arguments free resolved
an_array_is_made_after_its_items = refl

a_record_keeps_its_keys_in_order : shown (codes "cajita.keys({x: 1, 'a b': 2, 3: [4]}).join('|');") 20 ≡
    came (gave (text (codes "x|a b|3"))) 14 (made 0 (made_name 0 0) ∷ made 0 (made_name 0 1) ∷
    touched 0 to_get (tools_name of_cajita) (codes "keys" ∷ []) ∷ got 0 (tools_name of_cajita) (built_name r.keys) ∷
    touched 0 to_call (built_name r.keys) [] ∷ made 0 (made_name 0 2) ∷ touched 0 to_get (made_name 0 2) (codes "join" ∷ []) ∷
    got 0 (made_name 0 2) (built_name r.join) ∷ touched 0 to_call (built_name r.join) [] ∷ [])
unfolding quick_from longest body look_up settle resume step all_of run_quickly misplaced declarations faults_in names_arguments free resolved text_within digits array_index
a_record_keeps_its_keys_in_order = refl

a_function_expression_makes_a_closure : shown (codes "(function (a, b) { return a; });") 10 ≡
    came (gave (object (made_name 0 0))) 3 (made 0 (made_name 0 0) ∷ [])
unfolding quick_from longest body look_up settle resume step all_of run_quickly misplaced declarations faults_in names_arguments free resolved
a_function_expression_makes_a_closure = refl

a_function_expression_sees_its_own_name : shown (codes "var f = function g(n) { return n ? g(n - 1) : typeof g; }; f(2);") 40 ≡
    came (gave (text (codes "function"))) 32 (made 0 (made_name 0 0) ∷ touched 0 to_call (made_name 0 0) [] ∷ touched 0 to_call (made_name 0 0) [] ∷
    touched 0 to_call (made_name 0 0) [] ∷ [])
unfolding quick_from longest body look_up settle resume step all_of run_quickly misplaced declarations faults_in names_arguments free resolved
a_function_expression_sees_its_own_name = refl

a_variable_without_a_value_is_undefined : shown (codes "var x = 5; x; var y; y;") 20 ≡
    came (gave undefined) 10 []
unfolding quick_from longest body look_up settle resume step all_of run_quickly misplaced declarations faults_in names_arguments free resolved
a_variable_without_a_value_is_undefined = refl

arguments_are_an_array : shown (codes "function f(a) { return arguments.length + arguments[2]; } f(1, 2, 3);") 20 ≡
    came (gave (number (pos 6))) 17 (made 0 (made_name 0 0) ∷ touched 0 to_call (made_name 0 0) [] ∷ made 0 (made_name 0 1) ∷
    touched 0 to_get (made_name 0 1) (codes "length" ∷ []) ∷ touched 0 to_get (made_name 0 1) (codes "2" ∷ []) ∷ [])
unfolding quick_from longest body look_up settle resume step all_of run_quickly misplaced declarations faults_in names_arguments free resolved text_within digits array_index
arguments_are_an_array = refl

pub arguments_are_frozen : shown (codes "function f(a) { arguments[0] = 1; } f(2);") 20 ≡
    came (threw (object (made_name 0 2))) 13 (made 0 (made_name 0 0) ∷ touched 0 to_call (made_name 0 0) [] ∷ made 0 (made_name 0 1) ∷
    touched 0 to_set (made_name 0 1) (codes "0" ∷ []) ∷ made 0 (made_name 0 2) ∷ passed 0 0 (made_name 0 2) ∷ [])
unfolding quick_from longest body look_up settle resume step all_of run_quickly misplaced declarations faults_in names_arguments free resolved text_within digits
arguments_are_frozen = refl

pub arguments_keep_what_was_passed : shown (codes "function f(a) { a = 5; return arguments[0]; } f(2);") 20 ≡
    came (gave (number (pos 2))) 15 (made 0 (made_name 0 0) ∷ touched 0 to_call (made_name 0 0) [] ∷ made 0 (made_name 0 1) ∷
    touched 0 to_get (made_name 0 1) (codes "0" ∷ []) ∷ [])
unfolding quick_from longest body look_up settle resume step all_of run_quickly misplaced declarations faults_in names_arguments free resolved text_within digits array_index
arguments_keep_what_was_passed = refl

a_result_is_the_last_expression_statement : shown (codes "1; { 2; } if (true) 3; var x = 4;") 20 ≡
    came (gave (number (pos 1))) 13 []
unfolding quick_from longest body look_up settle resume step all_of run_quickly misplaced declarations faults_in names_arguments free resolved
a_result_is_the_last_expression_statement = refl

nested_functions_have_their_own_arguments : shown (codes "function f() { function g() { return arguments[0]; } return g(arguments[1]); } f(1, {});") 30 ≡
    came (gave (object (made_name 0 1))) 20 (made 0 (made_name 0 0) ∷ made 0 (made_name 0 1) ∷ touched 0 to_call (made_name 0 0) [] ∷
    passed 0 0 (made_name 0 1) ∷ made 0 (made_name 0 2) ∷ made 0 (made_name 0 3) ∷ touched 0 to_get (made_name 0 2) (codes "1" ∷ []) ∷
    got 0 (made_name 0 2) (made_name 0 1) ∷ touched 0 to_call (made_name 0 3) [] ∷ passed 0 0 (made_name 0 1) ∷ made 0 (made_name 0 4) ∷
    touched 0 to_get (made_name 0 4) (codes "0" ∷ []) ∷ got 0 (made_name 0 4) (made_name 0 1) ∷ passed 0 0 (made_name 0 1) ∷
    passed 0 0 (made_name 0 1) ∷ [])
unfolding quick_from longest body look_up settle resume step all_of run_quickly misplaced declarations faults_in names_arguments free resolved text_within digits array_index
nested_functions_have_their_own_arguments = refl

units_by_escapes : shown (codes "'\\x41\\u0042\\'\\\\'.length + '\\x41\\u0042';") 10 ≡
    came (gave (text (codes "4AB"))) 6 []
unfolding quick_from longest body look_up settle resume step all_of run_quickly misplaced declarations faults_in names_arguments free resolved text_within digits
units_by_escapes = refl

an_empty_array_and_an_empty_record : shown (codes "[]; ({});") 10 ≡
    came (gave (object (made_name 0 1))) 5 (made 0 (made_name 0 0) ∷ made 0 (made_name 0 1) ∷ [])
unfolding quick_from longest body look_up settle resume step all_of run_quickly misplaced declarations faults_in names_arguments free resolved
an_empty_array_and_an_empty_record = refl
