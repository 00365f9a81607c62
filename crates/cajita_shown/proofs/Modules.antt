-- Two modules: what is shown is the load of the second one, which is granted the result of the first one as `c`.
use Rattle.std.proofs.Common.{◌≡◌, [], ◌∷◌, refl}
use Rattle.std.specs.Prelude.{codes, pos, true, false}
use Rattle.std.specs.Fmt.{digits}
use Rattle.plans.specs.Plans.{number_fault}
use Rattle.caja_units.specs.Index.{array_index}
use Rattle.es3_tokens.specs.Longest.{longest}
use Rattle.es3_tokens.specs.Texts.{body}
use Rattle.es3_tokens.specs.Quick.{quick_from}
use Rattle.es3_grammar.specs.Spots.{look_up}
use Rattle.es3_grammar.specs.Machine.{settle, resume, step, all_of}
use Rattle.es3_grammar.specs.Sums.{run_quickly}
use Rattle.es3_labels.specs.Misplaced.{misplaced}
use Rattle.cajita_names.specs.Declarations.{declarations}
use Rattle.cajita_rules.specs.Faults.{faults_in}
use Rattle.cajita_forms.specs.Arguments.{names_arguments}
use Rattle.scope_rules.specs.Free.{free}
use Rattle.scope_rules.specs.Resolve.{resolved}
use Rattle.rows.specs.Rows as r
use Rattle.rows.specs.Rows.{to_get, to_set, to_call}
use Rattle.rows.specs.Names.{of_cajita}
use Rattle.cajita_meaning.specs.World.{made_name, own_name, built_name, tools_name, undefined, truth, number, text, object}
use Rattle.cajita_meaning.specs.Doing.{text_within}
use Rattle.cajita_meaning.specs.Direct.{gave, threw, made, got, touched, passed, said}
use Rattle.cajita_shown.specs.Shown.{came, faulted, shown_second}

a_closure_of_the_first_is_called_by_the_second : shown_second (codes "var n = 0; ({f: function (x) { n += 1; return [x, n]; }});") (codes "c.f({}).length;") 60 ≡
    came (gave (number (pos 2))) 15 (made 1 (made_name 1 0) ∷ touched 1 to_get (made_name 0 1) (codes "f" ∷ []) ∷ got 1 (made_name 0 1) (made_name 0 0) ∷
    touched 1 to_call (made_name 0 0) [] ∷ passed 1 0 (made_name 1 0) ∷ made 0 (made_name 0 2) ∷ passed 0 1 (made_name 0 2) ∷
    touched 1 to_get (made_name 0 2) (codes "length" ∷ []) ∷ [])
unfolding quick_from longest body look_up settle resume step all_of run_quickly misplaced declarations faults_in names_arguments free resolved text_within
a_closure_of_the_first_is_called_by_the_second = refl

objects_are_passed_both_ways : shown_second (codes "({f: function (x) { return x; }});") (codes "var a = []; c.f(a) === a;") 60 ≡
    came (gave (truth true)) 14 (made 1 (made_name 1 0) ∷ touched 1 to_get (made_name 0 1) (codes "f" ∷ []) ∷ got 1 (made_name 0 1) (made_name 0 0) ∷
    touched 1 to_call (made_name 0 0) [] ∷ passed 1 0 (made_name 1 0) ∷ passed 0 1 (made_name 1 0) ∷ [])
unfolding quick_from longest body look_up settle resume step all_of run_quickly misplaced declarations faults_in names_arguments free resolved text_within
objects_are_passed_both_ways = refl

a_throw_passes_its_value : shown_second (codes "({f: function () { throw {m: 1}; }});") (codes "try { c.f(); } catch (e) { e.m; }") 60 ≡
    came (gave undefined) 12 (touched 1 to_get (made_name 0 1) (codes "f" ∷ []) ∷ got 1 (made_name 0 1) (made_name 0 0) ∷
    touched 1 to_call (made_name 0 0) [] ∷ made 0 (made_name 0 2) ∷ passed 0 1 (made_name 0 2) ∷ touched 1 to_get (made_name 0 2) (codes "m" ∷ []) ∷ [])
unfolding quick_from longest body look_up settle resume step all_of run_quickly misplaced declarations faults_in names_arguments free resolved text_within
a_throw_passes_its_value = refl

pub an_error_is_made_by_the_module_that_runs : shown_second (codes "({f: function (o) { o.x = 1; }});") (codes "var r; try { c.f(cajita.freeze({})); } catch (e) { r = e; } r.message;") 60 ≡
    came (gave (text (codes "not writable"))) 24 (made 1 (made_name 1 0) ∷ touched 1 to_get (tools_name of_cajita) (codes "freeze" ∷ []) ∷
    got 1 (tools_name of_cajita) (built_name r.freeze) ∷ touched 1 to_call (built_name r.freeze) [] ∷ touched 1 to_get (made_name 0 1) (codes "f" ∷ []) ∷
    got 1 (made_name 0 1) (made_name 0 0) ∷ touched 1 to_call (made_name 0 0) [] ∷ passed 1 0 (made_name 1 0) ∷
    touched 0 to_set (made_name 1 0) (codes "x" ∷ []) ∷ made 0 (made_name 0 2) ∷ passed 0 1 (made_name 0 2) ∷
    touched 1 to_get (made_name 0 2) (codes "message" ∷ []) ∷ [])
unfolding quick_from longest body look_up settle resume step all_of run_quickly misplaced declarations faults_in names_arguments free resolved text_within
an_error_is_made_by_the_module_that_runs = refl

pub a_callback_runs_as_the_module_that_made_it : shown_second (codes "(function (g) { return g({}); });") (codes "c(function (o) { return [o]; });") 60 ≡
    came (gave (object (made_name 1 1))) 15 (made 1 (made_name 1 0) ∷ touched 1 to_call (made_name 0 0) [] ∷ passed 1 0 (made_name 1 0) ∷
    made 0 (made_name 0 1) ∷ touched 0 to_call (made_name 1 0) [] ∷ passed 0 1 (made_name 0 1) ∷ made 1 (made_name 1 1) ∷ passed 1 0 (made_name 1 1) ∷
    passed 0 1 (made_name 1 1) ∷ [])
unfolding quick_from longest body look_up settle resume step all_of run_quickly misplaced declarations faults_in names_arguments free resolved
a_callback_runs_as_the_module_that_made_it = refl

what_the_first_said_is_its_own : shown_second (codes "(function () { say('first'); });") (codes "c(); say('second');") 60 ≡
    came (gave undefined) 16 (touched 1 to_call (made_name 0 0) [] ∷ touched 0 to_call (own_name 0 0) [] ∷ said 0 (codes "first") ∷
    touched 1 to_call (own_name 1 0) [] ∷ said 1 (codes "second") ∷ [])
unfolding quick_from longest body look_up settle resume step all_of run_quickly misplaced declarations faults_in names_arguments free resolved text_within
what_the_first_said_is_its_own = refl

pub a_name_is_counted_for_each_module : shown_second (codes "var a = [], b = {}; b;") (codes "var o = {}; o.c = c; o;") 60 ≡
    came (gave (object (made_name 1 0))) 11 (made 1 (made_name 1 0) ∷ touched 1 to_set (made_name 1 0) (codes "c" ∷ []) ∷ [])
unfolding quick_from longest body look_up settle resume step all_of run_quickly misplaced declarations faults_in names_arguments free resolved text_within
a_name_is_counted_for_each_module = refl

an_object_of_the_first_is_written_by_the_second : shown_second (codes "var o = {x: 1}; ({o: o, read: function () { return o.x; }});") (codes "c.o.x = 5; c.read();") 60 ≡
    came (gave (number (pos 5))) 13 (touched 1 to_get (made_name 0 2) (codes "o" ∷ []) ∷ got 1 (made_name 0 2) (made_name 0 0) ∷
    touched 1 to_set (made_name 0 0) (codes "x" ∷ []) ∷ touched 1 to_get (made_name 0 2) (codes "read" ∷ []) ∷ got 1 (made_name 0 2) (made_name 0 1) ∷
    touched 1 to_call (made_name 0 1) [] ∷ touched 0 to_get (made_name 0 0) (codes "x" ∷ []) ∷ [])
unfolding quick_from longest body look_up settle resume step all_of run_quickly misplaced declarations faults_in names_arguments free resolved text_within
an_object_of_the_first_is_written_by_the_second = refl

arguments_belong_to_the_module_that_is_called : shown_second (codes "(function () { return arguments; });") (codes "c(1, [2])[1];") 60 ≡
    came (gave (object (made_name 1 0))) 13 (made 1 (made_name 1 0) ∷ touched 1 to_call (made_name 0 0) [] ∷ passed 1 0 (made_name 1 0) ∷
    made 0 (made_name 0 1) ∷ passed 0 1 (made_name 0 1) ∷ touched 1 to_get (made_name 0 1) (codes "1" ∷ []) ∷ got 1 (made_name 0 1) (made_name 1 0) ∷ [])
unfolding quick_from longest body look_up settle resume step all_of run_quickly misplaced declarations faults_in names_arguments free resolved text_within digits array_index
arguments_belong_to_the_module_that_is_called = refl

a_second_module_that_wants_nothing : shown_second (codes "1;") (codes "2;") 60 ≡
    came (gave (number (pos 2))) 3 []
unfolding quick_from longest body look_up settle resume step all_of run_quickly misplaced declarations faults_in names_arguments free resolved
a_second_module_that_wants_nothing = refl

the_first_one_threw : shown_second (codes "throw 5;") (codes "c;") 60 ≡
    came (gave undefined) 4 []
unfolding quick_from longest body look_up settle resume step all_of run_quickly misplaced declarations faults_in names_arguments free resolved
the_first_one_threw = refl

a_function_of_the_first_is_called_by_call : shown_second (codes "(function (a) { return a; });") (codes "c.call(null, {});") 60 ≡
    came (gave (object (made_name 1 0))) 11 (made 1 (made_name 1 0) ∷ touched 1 to_get (made_name 0 0) (codes "call" ∷ []) ∷
    got 1 (made_name 0 0) (built_name r.call) ∷ touched 1 to_call (built_name r.call) [] ∷ touched 1 to_call (made_name 0 0) [] ∷
    passed 1 0 (made_name 1 0) ∷ passed 0 1 (made_name 1 0) ∷ [])
unfolding quick_from longest body look_up settle resume step all_of run_quickly misplaced declarations faults_in names_arguments free resolved text_within
a_function_of_the_first_is_called_by_call = refl

a_function_of_the_first_gets_items_by_apply : shown_second (codes "(function (a, b) { return b; });") (codes "c.apply(null, [[], {}]);") 60 ≡
    came (gave (object (made_name 1 1))) 14 (made 1 (made_name 1 0) ∷ made 1 (made_name 1 1) ∷ made 1 (made_name 1 2) ∷
    touched 1 to_get (made_name 0 0) (codes "apply" ∷ []) ∷ got 1 (made_name 0 0) (built_name r.apply) ∷ touched 1 to_call (built_name r.apply) [] ∷
    got 1 (made_name 1 2) (made_name 1 0) ∷ got 1 (made_name 1 2) (made_name 1 1) ∷ touched 1 to_call (made_name 0 0) [] ∷ passed 1 0 (made_name 1 0) ∷
    passed 1 0 (made_name 1 1) ∷ passed 0 1 (made_name 1 1) ∷ [])
unfolding quick_from longest body look_up settle resume step all_of run_quickly misplaced declarations faults_in names_arguments free resolved text_within
a_function_of_the_first_gets_items_by_apply = refl

a_tool_that_is_called_by_the_first_makes_objects_of_the_first : shown_second (codes "(function (a) { return a.slice(0); });") (codes "c([[]])[0];") 60 ≡
    came (gave (object (made_name 1 0))) 15 (made 1 (made_name 1 0) ∷ made 1 (made_name 1 1) ∷ touched 1 to_call (made_name 0 0) [] ∷
    passed 1 0 (made_name 1 1) ∷ touched 0 to_get (made_name 1 1) (codes "slice" ∷ []) ∷ got 0 (made_name 1 1) (built_name r.slice) ∷
    touched 0 to_call (built_name r.slice) [] ∷ got 0 (made_name 1 1) (made_name 1 0) ∷ made 0 (made_name 0 1) ∷ passed 0 1 (made_name 0 1) ∷
    touched 1 to_get (made_name 0 1) (codes "0" ∷ []) ∷ got 1 (made_name 0 1) (made_name 1 0) ∷ [])
unfolding quick_from longest body look_up settle resume step all_of run_quickly misplaced declarations faults_in names_arguments free resolved text_within digits array_index
a_tool_that_is_called_by_the_first_makes_objects_of_the_first = refl

a_method_that_is_called_by_the_second_makes_objects_of_the_second : shown_second (codes "[{}];") (codes "c.slice(0);") 60 ≡
    came (gave (object (made_name 1 0))) 7 (touched 1 to_get (made_name 0 1) (codes "slice" ∷ []) ∷ got 1 (made_name 0 1) (built_name r.slice) ∷
    touched 1 to_call (built_name r.slice) [] ∷ got 1 (made_name 0 1) (made_name 0 0) ∷ made 1 (made_name 1 0) ∷ [])
unfolding quick_from longest body look_up settle resume step all_of run_quickly misplaced declarations faults_in names_arguments free resolved text_within digits array_index
a_method_that_is_called_by_the_second_makes_objects_of_the_second = refl

the_second_has_its_own_say : shown_second (codes "({say: say});") (codes "c.say('x'); say('y'); c.say === say;") 60 ≡
    came (gave (truth false)) 18 (touched 1 to_get (made_name 0 0) (codes "say" ∷ []) ∷ got 1 (made_name 0 0) (own_name 0 0) ∷
    touched 1 to_call (own_name 0 0) [] ∷ said 0 (codes "x") ∷ touched 1 to_call (own_name 1 0) [] ∷ said 1 (codes "y") ∷
    touched 1 to_get (made_name 0 0) (codes "say" ∷ []) ∷ got 1 (made_name 0 0) (own_name 0 0) ∷ [])
unfolding quick_from longest body look_up settle resume step all_of run_quickly misplaced declarations faults_in names_arguments free resolved text_within
the_second_has_its_own_say = refl

a_frozen_array_of_the_first : shown_second (codes "cajita.freeze([1]);") (codes "c.push(2);") 60 ≡
    came (threw (object (made_name 1 0))) 7 (touched 1 to_get (made_name 0 0) (codes "push" ∷ []) ∷ got 1 (made_name 0 0) (built_name r.push) ∷
    touched 1 to_call (built_name r.push) [] ∷ made 1 (made_name 1 0) ∷ [])
unfolding quick_from longest body look_up settle resume step all_of run_quickly misplaced declarations faults_in names_arguments free resolved text_within digits array_index
a_frozen_array_of_the_first = refl

a_counter_of_the_first : shown_second (codes "var n = 0; ({incr: function () { n = n + 1; return n; }});") (codes "c.incr(); c.incr();") 60 ≡
    came (gave (number (pos 2))) 22 (touched 1 to_get (made_name 0 1) (codes "incr" ∷ []) ∷ got 1 (made_name 0 1) (made_name 0 0) ∷
    touched 1 to_call (made_name 0 0) [] ∷ touched 1 to_get (made_name 0 1) (codes "incr" ∷ []) ∷ got 1 (made_name 0 1) (made_name 0 0) ∷
    touched 1 to_call (made_name 0 0) [] ∷ [])
unfolding quick_from longest body look_up settle resume step all_of run_quickly misplaced declarations faults_in names_arguments free resolved text_within
a_counter_of_the_first = refl

a_fault_in_the_first_module : shown_second (codes "(function (x) { return x / 2; });") (codes "c({}, 1);") 60 ≡
    faulted number_fault 12 (made 1 (made_name 1 0) ∷ touched 1 to_call (made_name 0 0) [] ∷ passed 1 0 (made_name 1 0) ∷ [])
unfolding quick_from longest body look_up settle resume step all_of run_quickly misplaced declarations faults_in names_arguments free resolved text_within
a_fault_in_the_first_module = refl
