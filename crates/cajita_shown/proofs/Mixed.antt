-- Modules that mix many forms.
use Rattle.std.proofs.Common.{◌≡◌, [], ◌∷◌, refl}
use Rattle.std.specs.Prelude.{codes, pos}
use Rattle.std.specs.Fmt.{digits}
use Rattle.plans.specs.Plans.{number_fault}
use Rattle.caja_units.specs.Index.{array_index}
use Rattle.es3_tokens.specs.Longest.{longest}
use Rattle.es3_tokens.specs.Texts.{body}
use Rattle.es3_tokens.specs.Gaps.{comment_end}
use Rattle.es3_tokens.specs.Cut.{point}
use Rattle.es3_tokens.specs.Quick.{quick_from}
use Rattle.es3_grammar.specs.Spots.{look_up}
use Rattle.es3_grammar.specs.Machine.{settle, resume, step, all_of}
use Rattle.es3_grammar.specs.Sums.{run_quickly}
use Rattle.es3_labels.specs.Misplaced.{misplaced}
use Rattle.cajita_names.specs.Declarations.{declarations}
use Rattle.cajita_rules.specs.Faults.{faults_in}
use Rattle.cajita_forms.specs.Arguments.{names_arguments}
use Rattle.scope_rules.specs.Free.{free}
use Rattle.scope_rules.specs.Resolve.{resolved}
use Rattle.rows.specs.Rows as r
use Rattle.rows.specs.Rows.{to_get, to_set, to_delete, to_has, to_keys, to_call}
use Rattle.rows.specs.Names.{of_cajita}
use Rattle.cajita_meaning.specs.World.{made_name, built_name, tools_name, undefined, number, text, object}
use Rattle.cajita_meaning.specs.Doing.{text_within}
use Rattle.cajita_meaning.specs.Direct.{gave, threw, made, got, touched}
use Rattle.cajita_shown.specs.Shown.{came, faulted, shown}

a_loop_over_a_text_leaves_its_variable_undefined : shown (codes "for(var b in\"n__\")b;++b;") 10 ≡
    faulted number_fault 6 []
unfolding quick_from longest body look_up settle resume step all_of run_quickly misplaced declarations faults_in names_arguments free resolved
a_loop_over_a_text_leaves_its_variable_undefined = refl

null_is_no_function_for_instanceof : shown (codes "\"b\"instanceof null;Math;") 10 ≡
    came (threw (object (made_name 0 0))) 6 (made 0 (made_name 0 0) ∷ [])
unfolding quick_from longest body look_up settle resume step all_of run_quickly misplaced declarations faults_in names_arguments free resolved
null_is_no_function_for_instanceof = refl

an_absent_constructor_is_no_number : shown (codes "cajita&&[];({}.constructor--);") 10 ≡
    faulted number_fault 9 (made 0 (made_name 0 0) ∷ made 0 (made_name 0 1) ∷ touched 0 to_get (made_name 0 1) (codes "constructor" ∷ []) ∷ [])
unfolding quick_from longest body look_up settle resume step all_of run_quickly misplaced declarations faults_in names_arguments free resolved text_within
an_absent_constructor_is_no_number = refl

comments_and_line_ends_are_skipped : shown (codes " typeof/*\n*/undefined;'a,b'/* ; */;") 10 ≡
    came (gave (text (codes "a,b"))) 7 []
unfolding quick_from longest body comment_end point look_up settle resume step all_of run_quickly misplaced declarations faults_in names_arguments free resolved
comments_and_line_ends_are_skipped = refl

a_loop_that_is_left_at_once : shown (codes "var w=w=[];{for(;1?[]:w;){[];break;}}") 20 ≡
    came (gave undefined) 14 (made 0 (made_name 0 0) ∷ made 0 (made_name 0 1) ∷ made 0 (made_name 0 2) ∷ [])
unfolding quick_from longest body look_up settle resume step all_of run_quickly misplaced declarations faults_in names_arguments free resolved
a_loop_that_is_left_at_once = refl

a_loop_over_a_text_evaluates_no_target : shown (codes "for({}.y in typeof Math)if(4)Error;10;") 10 ≡
    came (gave (number (pos 10))) 8 []
unfolding quick_from longest body point look_up settle resume step all_of run_quickly misplaced declarations faults_in names_arguments free resolved
a_loop_over_a_text_evaluates_no_target = refl

a_loop_over_its_own_variable : shown (codes "'0';for(var  foo  in/* ; */foo)\tfoo;;0x1;") 10 ≡
    came (threw (object (made_name 0 0))) 6 (made 0 (made_name 0 0) ∷ [])
unfolding quick_from longest body comment_end point look_up settle resume step all_of run_quickly misplaced declarations faults_in names_arguments free resolved
a_loop_over_its_own_variable = refl

a_tool_that_is_not_there : shown (codes "{[Error[cajita.name([],false)]];}undefined;") 20 ≡
    came (threw (object (made_name 0 1))) 13 (made 0 (made_name 0 0) ∷ touched 0 to_get (tools_name of_cajita) (codes "name" ∷ []) ∷
    made 0 (made_name 0 1) ∷ [])
unfolding quick_from longest body look_up settle resume step all_of run_quickly misplaced declarations faults_in names_arguments free resolved text_within
a_tool_that_is_not_there = refl

a_method_of_a_text_is_not_overwritten : shown (codes "3;var o=\"]]\\x3E\";for(var $ in[])$;o.message=[];(3)[true]=$;Number;") 20 ≡
    came (threw (object (made_name 0 2))) 14 (made 0 (made_name 0 0) ∷ touched 0 to_keys (made_name 0 0) [] ∷ made 0 (made_name 0 1) ∷
    made 0 (made_name 0 2) ∷ [])
unfolding quick_from longest body look_up settle resume step all_of run_quickly misplaced declarations faults_in names_arguments free resolved text_within
a_method_of_a_text_is_not_overwritten = refl

a_variable_that_two_statements_declare : shown (codes "b;var q,q=[];for(var b=0;b<2;b++)b;({\"y\":q,\"constructor\":null});1;") 40 ≡
    came (gave (number (pos 1))) 30 (made 0 (made_name 0 0) ∷ made 0 (made_name 0 1) ∷ [])
unfolding quick_from longest body look_up settle resume step all_of run_quickly misplaced declarations faults_in names_arguments free resolved
a_variable_that_two_statements_declare = refl

a_function_has_no_name_to_read : shown (codes "function p(o,$){var x1=arguments,x1=o;o;var k;$;return x1;}p.name;4;") 10 ≡
    came (gave (number (pos 4))) 7 (made 0 (made_name 0 0) ∷ touched 0 to_get (made_name 0 0) (codes "name" ∷ []) ∷ [])
unfolding quick_from longest body look_up settle resume step all_of run_quickly misplaced declarations faults_in names_arguments free resolved text_within
a_function_has_no_name_to_read = refl

a_comma_under_a_throw : shown (codes "function _t(w,d){w|=w;d/=\"a\";return{};}throw _t[1],[_t,_t,\"x\"];false;") 20 ≡
    came (threw (object (made_name 0 1))) 11 (made 0 (made_name 0 0) ∷ touched 0 to_get (made_name 0 0) (codes "1" ∷ []) ∷ made 0 (made_name 0 1) ∷ [])
unfolding quick_from longest body look_up settle resume step all_of run_quickly misplaced declarations faults_in names_arguments free resolved text_within digits
a_comma_under_a_throw = refl

a_constructor_is_the_result : shown (codes "cajita.isArray(Boolean);\"toString\"+RangeError;\"]]\\x3E\"||Number;TypeError;") 30 ≡
    came (gave (object (built_name (r.makes r.type_error)))) 20 (touched 0 to_get (tools_name of_cajita) (codes "isArray" ∷ []) ∷
    got 0 (tools_name of_cajita) (built_name r.is_array) ∷ touched 0 to_call (built_name r.is_array) [] ∷ [])
unfolding quick_from longest body look_up settle resume step all_of run_quickly misplaced declarations faults_in names_arguments free resolved text_within
a_constructor_is_the_result = refl

a_number_in_place_of_a_record : shown (codes "var bar_=_t,bar_=1;var _t=x;x;for(var x=0;x<2;++x)[];x=_t;bar_.y=RangeError;") 40 ≡
    came (threw (object (made_name 0 2))) 36 (made 0 (made_name 0 0) ∷ made 0 (made_name 0 1) ∷ made 0 (made_name 0 2) ∷ [])
unfolding quick_from longest body look_up settle resume step all_of run_quickly misplaced declarations faults_in names_arguments free resolved text_within
a_number_in_place_of_a_record = refl

a_constructor_loses_nothing : shown (codes "for(var x1 in\"toString\")x1;cajita[\"isArray\"](x1,true);delete TypeError[String];") 20 ≡
    came (threw (object (made_name 0 0))) 18 (touched 0 to_get (tools_name of_cajita) (codes "isArray" ∷ []) ∷
    got 0 (tools_name of_cajita) (built_name r.is_array) ∷ touched 0 to_call (built_name r.is_array) [] ∷
    touched 0 to_delete (built_name (r.makes r.type_error)) (codes "[object Function]" ∷ []) ∷ made 0 (made_name 0 0) ∷ [])
unfolding quick_from longest body look_up settle resume step all_of run_quickly misplaced declarations faults_in names_arguments free resolved text_within
a_constructor_loses_nothing = refl

a_text_with_spaces_is_a_number : shown (codes "var bar_=$,bar_=\" 12 \";bar_;function $(c,v){v;\"__proto__\";arguments;}bar_--;[];") 20 ≡
    came (gave (object (made_name 0 1))) 12 (made 0 (made_name 0 0) ∷ made 0 (made_name 0 1) ∷ [])
unfolding quick_from longest body look_up settle resume step all_of run_quickly misplaced declarations faults_in names_arguments free resolved text_within
a_text_with_spaces_is_a_number = refl

a_member_of_what_a_choice_gave : shown (codes "var a = {x: 1, y: [2, 3]}, b = [1, 2], o = {x: a}, p, t; (((null ? 1 : a))[a])[0];") 30 ≡
    came (threw (object (made_name 0 4))) 25 (made 0 (made_name 0 0) ∷ made 0 (made_name 0 1) ∷ made 0 (made_name 0 2) ∷ made 0 (made_name 0 3) ∷
    touched 0 to_get (made_name 0 1) (codes "[object Object]" ∷ []) ∷ made 0 (made_name 0 4) ∷ [])
unfolding quick_from longest body look_up settle resume step all_of run_quickly misplaced declarations faults_in names_arguments free resolved text_within
a_member_of_what_a_choice_gave = refl

a_length_is_not_stepped : shown (codes "var a = {x: 1, y: [2, 3]}, b = [1, 2], o = {x: a}, p, t; b; (((b.length++) >= p)).y;") 30 ≡
    came (threw (object (made_name 0 4))) 24 (made 0 (made_name 0 0) ∷ made 0 (made_name 0 1) ∷ made 0 (made_name 0 2) ∷ made 0 (made_name 0 3) ∷
    touched 0 to_get (made_name 0 2) (codes "length" ∷ []) ∷ touched 0 to_set (made_name 0 2) (codes "length" ∷ []) ∷ made 0 (made_name 0 4) ∷ [])
unfolding quick_from longest body look_up settle resume step all_of run_quickly misplaced declarations faults_in names_arguments free resolved text_within digits array_index
a_length_is_not_stepped = refl

a_key_that_is_undefined : shown (codes "var a = {x: 1, y: [2, 3]}, b = [1, 2], o = {x: a}, p, t; ((({x: 'ab', y: t}))[(void p)]).x;") 30 ≡
    came (threw (object (made_name 0 5))) 25 (made 0 (made_name 0 0) ∷ made 0 (made_name 0 1) ∷ made 0 (made_name 0 2) ∷ made 0 (made_name 0 3) ∷
    made 0 (made_name 0 4) ∷ touched 0 to_get (made_name 0 4) (codes "undefined" ∷ []) ∷ made 0 (made_name 0 5) ∷ [])
unfolding quick_from longest body look_up settle resume step all_of run_quickly misplaced declarations faults_in names_arguments free resolved text_within
a_key_that_is_undefined = refl

a_sum_is_not_written : shown (codes "var a = {x: 1, y: [2, 3]}, b = [1, 2], o = {x: a}, p, t; []; ((((b + [])).message += []) * 7);") 30 ≡
    came (threw (object (made_name 0 7))) 26 (made 0 (made_name 0 0) ∷ made 0 (made_name 0 1) ∷ made 0 (made_name 0 2) ∷ made 0 (made_name 0 3) ∷
    made 0 (made_name 0 4) ∷ made 0 (made_name 0 5) ∷ made 0 (made_name 0 6) ∷ made 0 (made_name 0 7) ∷ [])
unfolding quick_from longest body look_up settle resume step all_of run_quickly misplaced declarations faults_in names_arguments free resolved text_within
a_sum_is_not_written = refl

an_error_within_an_array_and_a_record : shown (codes "var a = {x: 1, y: [2, 3]}, b = [1, 2], o = {x: a}, p, t; [(o in o), ({x: (null)['x'], y: (a === a)})];") 30 ≡
    came (threw (object (made_name 0 4))) 26 (made 0 (made_name 0 0) ∷ made 0 (made_name 0 1) ∷ made 0 (made_name 0 2) ∷ made 0 (made_name 0 3) ∷
    touched 0 to_has (made_name 0 3) (codes "[object Object]" ∷ []) ∷ made 0 (made_name 0 4) ∷ [])
unfolding quick_from longest body look_up settle resume step all_of run_quickly misplaced declarations faults_in names_arguments free resolved text_within
an_error_within_an_array_and_a_record = refl

undefined_has_no_member_to_step : shown (codes "var a = {x: 1, y: [2, 3]}, b = [1, 2], o = {x: a}, p, t; a; (((1)[1]).x++); (++(null)[((b , 1) , o)]);") 30 ≡
    came (threw (object (made_name 0 4))) 24 (made 0 (made_name 0 0) ∷ made 0 (made_name 0 1) ∷ made 0 (made_name 0 2) ∷ made 0 (made_name 0 3) ∷
    made 0 (made_name 0 4) ∷ [])
unfolding quick_from longest body look_up settle resume step all_of run_quickly misplaced declarations faults_in names_arguments free resolved text_within digits
undefined_has_no_member_to_step = refl

a_number_has_no_item_to_write : shown (codes "var a = {x: 1, y: [2, 3]}, b = [1, 2], o = {x: a}, p, t; (((true & true) ^ ((255)[0] = p)) < (0 % o));") 30 ≡
    came (threw (object (made_name 0 4))) 27 (made 0 (made_name 0 0) ∷ made 0 (made_name 0 1) ∷ made 0 (made_name 0 2) ∷ made 0 (made_name 0 3) ∷
    made 0 (made_name 0 4) ∷ [])
unfolding quick_from longest body point look_up settle resume step all_of run_quickly misplaced declarations faults_in names_arguments free resolved text_within digits
a_number_has_no_item_to_write = refl

a_record_is_no_number : shown (codes "var a = {x: 1, y: [2, 3]}, b = [1, 2], o = {x: a}, p, t; (o << (o.y++));") 30 ≡
    faulted number_fault 22 (made 0 (made_name 0 0) ∷ made 0 (made_name 0 1) ∷ made 0 (made_name 0 2) ∷ made 0 (made_name 0 3) ∷
    touched 0 to_get (made_name 0 3) (codes "y" ∷ []) ∷ [])
unfolding quick_from longest body look_up settle resume step all_of run_quickly misplaced declarations faults_in names_arguments free resolved text_within
a_record_is_no_number = refl

void_and_or_before_a_missing_member : shown (codes "var a = {x: 1, y: [2, 3]}, b = [1, 2], o = {x: a}, p, t; (void (true != '')); (7 | p[1]);") 30 ≡
    came (threw (object (made_name 0 4))) 28 (made 0 (made_name 0 0) ∷ made 0 (made_name 0 1) ∷ made 0 (made_name 0 2) ∷ made 0 (made_name 0 3) ∷
    made 0 (made_name 0 4) ∷ [])
unfolding quick_from longest body look_up settle resume step all_of run_quickly misplaced declarations faults_in names_arguments free resolved text_within
void_and_or_before_a_missing_member = refl

two_loops_and_a_closure_that_fails : shown (codes "function e(k,q){Number;var x;var w=h;1000;function i(c,e,a){function h(b,c,v){b;k;return arguments;}x;for(var d in\"__proto__\")break;var foo=foo;0;}5;for(var p in k)arguments;w;e;x;return;}\"__proto__\";for(var f in p)p;var p=p;2;function h(_t,p,c){\"a,b\";function d(){f;}var _t=\"0x1F\",foo=c;var foo={},_t=arguments;\" 12 \";\"\\n\\\"\\\\'\";\"\\n\\\"\\\\'\";}e;f;\"toString\";") 20 ≡
    came (threw (object (made_name 0 2))) 10 (made 0 (made_name 0 0) ∷ made 0 (made_name 0 1) ∷ made 0 (made_name 0 2) ∷ [])
unfolding quick_from longest body point look_up settle resume step all_of run_quickly misplaced declarations faults_in names_arguments free resolved
two_loops_and_a_closure_that_fails = refl
