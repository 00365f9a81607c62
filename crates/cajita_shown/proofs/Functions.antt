-- Declared functions, closures and recursion.
use Rattle.std.proofs.Common.{◌≡◌, [], ◌∷◌, refl}
use Rattle.std.specs.Prelude.{codes, pos, true, false}
use Rattle.std.specs.Fmt.{digits}
use Rattle.caja_units.specs.Index.{array_index}
use Rattle.es3_tokens.specs.Longest.{longest}
use Rattle.es3_tokens.specs.Texts.{body}
use Rattle.es3_tokens.specs.Quick.{quick_from}
use Rattle.es3_grammar.specs.Spots.{look_up}
use Rattle.es3_grammar.specs.Machine.{settle, resume, step, all_of}
use Rattle.es3_grammar.specs.Sums.{run_quickly}
use Rattle.es3_labels.specs.Misplaced.{misplaced}
use Rattle.cajita_names.specs.Declarations.{declarations}
use Rattle.cajita_rules.specs.Faults.{faults_in}
use Rattle.cajita_forms.specs.Arguments.{names_arguments}
use Rattle.scope_rules.specs.Free.{free}
use Rattle.scope_rules.specs.Resolve.{resolved}
use Rattle.rows.specs.Rows as r
use Rattle.rows.specs.Rows.{to_get, to_call}
use Rattle.cajita_meaning.specs.World.{made_name, built_name, undefined, truth, number, text}
use Rattle.cajita_meaning.specs.Doing.{text_within}
use Rattle.cajita_meaning.specs.Direct.{gave, made, got, touched, passed}
use Rattle.cajita_shown.specs.Shown.{came, shown}

declared_functions_are_made_first : shown (codes "var t = f(); function f() { return g(); } function g() { return 'g'; } t;") 20 ≡
    came (gave (text (codes "g"))) 14 (made 0 (made_name 0 0) ∷ made 0 (made_name 0 1) ∷ touched 0 to_call (made_name 0 0) [] ∷
    touched 0 to_call (made_name 0 1) [] ∷ [])
unfolding quick_from longest body look_up settle resume step all_of run_quickly misplaced declarations faults_in names_arguments free resolved
declared_functions_are_made_first = refl

pub a_closure_keeps_its_variables : shown (codes "function counter() { var n = 0; return function () { n = n + 1; return n; }; } var a = counter(), b = counter(); a(); a(); [a(), b()].join();") 70 ≡
    came (gave (text (codes "3,1"))) 61 (made 0 (made_name 0 0) ∷ touched 0 to_call (made_name 0 0) [] ∷ made 0 (made_name 0 1) ∷
    passed 0 0 (made_name 0 1) ∷ touched 0 to_call (made_name 0 0) [] ∷ made 0 (made_name 0 2) ∷ passed 0 0 (made_name 0 2) ∷
    touched 0 to_call (made_name 0 1) [] ∷ touched 0 to_call (made_name 0 1) [] ∷ touched 0 to_call (made_name 0 1) [] ∷
    touched 0 to_call (made_name 0 2) [] ∷ made 0 (made_name 0 3) ∷ touched 0 to_get (made_name 0 3) (codes "join" ∷ []) ∷
    got 0 (made_name 0 3) (built_name r.join) ∷ touched 0 to_call (built_name r.join) [] ∷ [])
unfolding quick_from longest body look_up settle resume step all_of run_quickly misplaced declarations faults_in names_arguments free resolved text_within digits array_index
a_closure_keeps_its_variables = refl

a_recursion : shown (codes "function f(n) { return n === 0 ? 1 : n * f(n - 1); } f(5);") 80 ≡
    came (gave (number (pos 120))) 78 (made 0 (made_name 0 0) ∷ touched 0 to_call (made_name 0 0) [] ∷ touched 0 to_call (made_name 0 0) [] ∷
    touched 0 to_call (made_name 0 0) [] ∷ touched 0 to_call (made_name 0 0) [] ∷ touched 0 to_call (made_name 0 0) [] ∷
    touched 0 to_call (made_name 0 0) [] ∷ [])
unfolding quick_from longest body look_up settle resume step all_of run_quickly misplaced declarations faults_in names_arguments free resolved
a_recursion = refl

two_functions_call_each_other : shown (codes "function even(n) { return n === 0 || odd(n - 1); } function odd(n) { return n !== 0 && even(n - 1); } even(3);") 50 ≡
    came (gave (truth false)) 46 (made 0 (made_name 0 0) ∷ made 0 (made_name 0 1) ∷ touched 0 to_call (made_name 0 0) [] ∷
    touched 0 to_call (made_name 0 1) [] ∷ touched 0 to_call (made_name 0 0) [] ∷ touched 0 to_call (made_name 0 1) [] ∷ [])
unfolding quick_from longest body look_up settle resume step all_of run_quickly misplaced declarations faults_in names_arguments free resolved
two_functions_call_each_other = refl

a_parameter_that_is_declared_again : shown (codes "function f(a) { var a; return a; } f(4);") 20 ≡
    came (gave (number (pos 4))) 11 (made 0 (made_name 0 0) ∷ touched 0 to_call (made_name 0 0) [] ∷ [])
unfolding quick_from longest body look_up settle resume step all_of run_quickly misplaced declarations faults_in names_arguments free resolved
a_parameter_that_is_declared_again = refl

a_repeated_variable_is_bound_once : shown (codes "var x = 1; var x; x;") 10 ≡
    came (gave (number (pos 1))) 7 []
unfolding quick_from longest body look_up settle resume step all_of run_quickly misplaced declarations faults_in names_arguments free resolved
a_repeated_variable_is_bound_once = refl

functions_within_functions : shown (codes "function f(a) { function g(b) { return a + b; } return g(2) + h; var h = 1; } typeof f;") 10 ≡
    came (gave (text (codes "function"))) 5 (made 0 (made_name 0 0) ∷ [])
unfolding quick_from longest body look_up settle resume step all_of run_quickly misplaced declarations faults_in names_arguments free resolved
functions_within_functions = refl

a_function_hides_a_fixed_name : shown (codes "function f() { var say = 5; return say; } f();") 20 ≡
    came (gave (number (pos 5))) 10 (made 0 (made_name 0 0) ∷ touched 0 to_call (made_name 0 0) [] ∷ [])
unfolding quick_from longest body look_up settle resume step all_of run_quickly misplaced declarations faults_in names_arguments free resolved
a_function_hides_a_fixed_name = refl

a_loop_of_closures_shares_a_variable : shown (codes "var fs = []; for (var i = 0; i < 2; i++) fs.push(function () { return i; }); fs[0]() + fs[1]();") 50 ≡
    came (gave (number (pos 4))) 40 (made 0 (made_name 0 0) ∷ made 0 (made_name 0 1) ∷ touched 0 to_get (made_name 0 0) (codes "push" ∷ []) ∷
    got 0 (made_name 0 0) (built_name r.push) ∷ touched 0 to_call (built_name r.push) [] ∷ made 0 (made_name 0 2) ∷
    touched 0 to_get (made_name 0 0) (codes "push" ∷ []) ∷ got 0 (made_name 0 0) (built_name r.push) ∷ touched 0 to_call (built_name r.push) [] ∷
    touched 0 to_get (made_name 0 0) (codes "0" ∷ []) ∷ got 0 (made_name 0 0) (made_name 0 1) ∷ touched 0 to_call (made_name 0 1) [] ∷
    touched 0 to_get (made_name 0 0) (codes "1" ∷ []) ∷ got 0 (made_name 0 0) (made_name 0 2) ∷ touched 0 to_call (made_name 0 2) [] ∷ [])
unfolding quick_from longest body look_up settle resume step all_of run_quickly misplaced declarations faults_in names_arguments free resolved text_within digits array_index
a_loop_of_closures_shares_a_variable = refl

a_catch_name_is_closed_over : shown (codes "var fs = []; for (var i = 0; i < 2; i++) { try { throw i; } catch (e) { fs.push(function () { return e; }); } } [fs[0](), fs[1]()].join();") 60 ≡
    came (gave (text (codes "0,1"))) 50 (made 0 (made_name 0 0) ∷ made 0 (made_name 0 1) ∷ touched 0 to_get (made_name 0 0) (codes "push" ∷ []) ∷
    got 0 (made_name 0 0) (built_name r.push) ∷ touched 0 to_call (built_name r.push) [] ∷ made 0 (made_name 0 2) ∷
    touched 0 to_get (made_name 0 0) (codes "push" ∷ []) ∷ got 0 (made_name 0 0) (built_name r.push) ∷ touched 0 to_call (built_name r.push) [] ∷
    touched 0 to_get (made_name 0 0) (codes "0" ∷ []) ∷ got 0 (made_name 0 0) (made_name 0 1) ∷ touched 0 to_call (made_name 0 1) [] ∷
    touched 0 to_get (made_name 0 0) (codes "1" ∷ []) ∷ got 0 (made_name 0 0) (made_name 0 2) ∷ touched 0 to_call (made_name 0 2) [] ∷
    made 0 (made_name 0 3) ∷ touched 0 to_get (made_name 0 3) (codes "join" ∷ []) ∷ got 0 (made_name 0 3) (built_name r.join) ∷
    touched 0 to_call (built_name r.join) [] ∷ [])
unfolding quick_from longest body look_up settle resume step all_of run_quickly misplaced declarations faults_in names_arguments free resolved text_within digits array_index
a_catch_name_is_closed_over = refl

a_function_in_a_function_is_made_at_each_call : shown (codes "function f() { function g() { } return g; } f() === f();") 20 ≡
    came (gave (truth false)) 14 (made 0 (made_name 0 0) ∷ touched 0 to_call (made_name 0 0) [] ∷ made 0 (made_name 0 1) ∷ passed 0 0 (made_name 0 1) ∷
    touched 0 to_call (made_name 0 0) [] ∷ made 0 (made_name 0 2) ∷ passed 0 0 (made_name 0 2) ∷ [])
unfolding quick_from longest body look_up settle resume step all_of run_quickly misplaced declarations faults_in names_arguments free resolved
a_function_in_a_function_is_made_at_each_call = refl

a_declared_function_is_seen_by_its_own_body : shown (codes "function f(n) { if (n) return f; return 0; } f(1) === f;") 20 ≡
    came (gave (truth true)) 13 (made 0 (made_name 0 0) ∷ touched 0 to_call (made_name 0 0) [] ∷ passed 0 0 (made_name 0 0) ∷ [])
unfolding quick_from longest body look_up settle resume step all_of run_quickly misplaced declarations faults_in names_arguments free resolved
a_declared_function_is_seen_by_its_own_body = refl

the_own_name_of_a_function_expression_is_not_seen_outside : shown (codes "var t = typeof function g() { return g; }; t;") 10 ≡
    came (gave (text (codes "function"))) 7 (made 0 (made_name 0 0) ∷ [])
unfolding quick_from longest body look_up settle resume step all_of run_quickly misplaced declarations faults_in names_arguments free resolved
the_own_name_of_a_function_expression_is_not_seen_outside = refl

a_parameter_hides_a_variable : shown (codes "var x = 1; function f(x) { x = 2; return x; } f(0) + x;") 20 ≡
    came (gave (number (pos 3))) 17 (made 0 (made_name 0 0) ∷ touched 0 to_call (made_name 0 0) [] ∷ [])
unfolding quick_from longest body look_up settle resume step all_of run_quickly misplaced declarations faults_in names_arguments free resolved
a_parameter_hides_a_variable = refl

variables_of_a_call_are_new_each_time : shown (codes "function f() { var x; var old = x; x = 1; return old; } f(); f();") 30 ≡
    came (gave undefined) 28 (made 0 (made_name 0 0) ∷ touched 0 to_call (made_name 0 0) [] ∷ touched 0 to_call (made_name 0 0) [] ∷ [])
unfolding quick_from longest body look_up settle resume step all_of run_quickly misplaced declarations faults_in names_arguments free resolved
variables_of_a_call_are_new_each_time = refl

functions_in_a_record : shown (codes "var o = {a: function () { return o.b(); }, b: function () { return 'b'; }}; o.a();") 20 ≡
    came (gave (text (codes "b"))) 14 (made 0 (made_name 0 0) ∷ made 0 (made_name 0 1) ∷ made 0 (made_name 0 2) ∷
    touched 0 to_get (made_name 0 2) (codes "a" ∷ []) ∷ got 0 (made_name 0 2) (made_name 0 0) ∷ touched 0 to_call (made_name 0 0) [] ∷
    touched 0 to_get (made_name 0 2) (codes "b" ∷ []) ∷ got 0 (made_name 0 2) (made_name 0 1) ∷ touched 0 to_call (made_name 0 1) [] ∷ [])
unfolding quick_from longest body look_up settle resume step all_of run_quickly misplaced declarations faults_in names_arguments free resolved text_within
functions_in_a_record = refl

a_factorial_by_apply : shown (codes "function f(n) { return n < 2 ? 1 : n * f.apply(null, [n - 1]); } f(3);") 50 ≡
    came (gave (number (pos 6))) 45 (made 0 (made_name 0 0) ∷ touched 0 to_call (made_name 0 0) [] ∷ made 0 (made_name 0 1) ∷
    touched 0 to_get (made_name 0 0) (codes "apply" ∷ []) ∷ got 0 (made_name 0 0) (built_name r.apply) ∷ touched 0 to_call (built_name r.apply) [] ∷
    touched 0 to_call (made_name 0 0) [] ∷ made 0 (made_name 0 2) ∷ touched 0 to_get (made_name 0 0) (codes "apply" ∷ []) ∷
    got 0 (made_name 0 0) (built_name r.apply) ∷ touched 0 to_call (built_name r.apply) [] ∷ touched 0 to_call (made_name 0 0) [] ∷ [])
unfolding quick_from longest body look_up settle resume step all_of run_quickly misplaced declarations faults_in names_arguments free resolved text_within
a_factorial_by_apply = refl
