-- Modules that break a rule: its number, and the place.
use Rattle.std.proofs.Common.{◌≡◌, refl}
use Rattle.std.specs.Prelude.{codes}
use Rattle.es3_tokens.specs.Longest.{longest}
use Rattle.es3_tokens.specs.Texts.{body}
use Rattle.es3_tokens.specs.Gaps.{comment_end}
use Rattle.es3_tokens.specs.Cut.{point, cut_from}
use Rattle.es3_tokens.specs.Quick.{quick_from}
use Rattle.es3_grammar.specs.Spots.{look_up}
use Rattle.es3_grammar.specs.Machine.{settle, resume, step, all_of}
use Rattle.es3_grammar.specs.Sums.{run_quickly}
use Rattle.es3_labels.specs.Misplaced.{misplaced}
use Rattle.cajita_names.specs.Declarations.{declarations}
use Rattle.cajita_rules.specs.Faults.{faults_in}
use Rattle.cajita_forms.specs.Arguments.{names_arguments}
use Rattle.scope_rules.specs.Free.{free}
use Rattle.scope_rules.specs.Resolve.{resolved}
use Rattle.cajita_shown.specs.Shown.{breaks, unread, shown}

a_name_that_ends_in_two_underscores : shown (codes "foo__;") 10 ≡ breaks 1 0
unfolding quick_from longest body look_up settle resume step all_of run_quickly misplaced declarations faults_in names_arguments free resolved
a_name_that_ends_in_two_underscores = refl

a_name_that_is_not_bound : shown (codes "foo_;") 10 ≡ breaks 10 0
unfolding quick_from longest body look_up settle resume step all_of run_quickly misplaced declarations faults_in names_arguments free resolved
a_name_that_is_not_bound = refl

a_with_statement : shown (codes "with ({}) ;") 10 ≡ breaks 2 0
unfolding quick_from longest body look_up settle resume step all_of run_quickly misplaced declarations faults_in names_arguments free resolved
a_with_statement = refl

eval_as_a_name : shown (codes "eval;") 10 ≡ breaks 3 0
unfolding quick_from longest body look_up settle resume step all_of run_quickly misplaced declarations faults_in names_arguments free resolved
eval_as_a_name = refl

this_is_refused : shown (codes "1; this;") 10 ≡ breaks 4 3
unfolding quick_from longest body look_up settle resume step all_of run_quickly misplaced declarations faults_in names_arguments free resolved
this_is_refused = refl

two_parameters_alike : shown (codes "function f(a, a) { }") 10 ≡ breaks 5 14
unfolding quick_from longest body look_up settle resume step all_of run_quickly misplaced declarations faults_in names_arguments free resolved
two_parameters_alike = refl

a_catch_name_that_is_declared : shown (codes "var e; try { } catch (e) { }") 10 ≡ breaks 6 22
unfolding quick_from longest body look_up settle resume step all_of run_quickly misplaced declarations faults_in names_arguments free resolved
a_catch_name_that_is_declared = refl

an_import_is_not_assigned : shown (codes "say = 1;") 10 ≡ breaks 7 0
unfolding quick_from longest body look_up settle resume step all_of run_quickly misplaced declarations faults_in names_arguments free resolved
an_import_is_not_assigned = refl

a_declared_function_is_not_assigned : shown (codes "function f() { } f = 1;") 10 ≡ breaks 7 17
unfolding quick_from longest body look_up settle resume step all_of run_quickly misplaced declarations faults_in names_arguments free resolved
a_declared_function_is_not_assigned = refl

a_reserved_key : shown (codes "({toString: 1});") 10 ≡ breaks 8 2
unfolding quick_from longest body look_up settle resume step all_of run_quickly misplaced declarations faults_in names_arguments free resolved
a_reserved_key = refl

a_key_twice : shown (codes "({x: 1, x: 2});") 10 ≡ breaks 9 8
unfolding quick_from longest body look_up settle resume step all_of run_quickly misplaced declarations faults_in names_arguments free resolved
a_key_twice = refl

pub arguments_outside_of_functions : shown (codes "arguments;") 10 ≡ breaks 10 0
unfolding quick_from longest body look_up settle resume step all_of run_quickly misplaced declarations faults_in names_arguments free resolved
arguments_outside_of_functions = refl

a_break_without_a_loop : shown (codes "break;") 10 ≡ breaks 11 0
unfolding quick_from longest body look_up settle resume step all_of run_quickly misplaced declarations faults_in names_arguments free resolved
a_break_without_a_loop = refl

a_return_outside_of_functions : shown (codes "1; return;") 10 ≡ breaks 11 3
unfolding quick_from longest body look_up settle resume step all_of run_quickly misplaced declarations faults_in names_arguments free resolved
a_return_outside_of_functions = refl

the_own_name_of_a_function_is_not_assigned : shown (codes "(function g() { g = 1; });") 10 ≡ breaks 7 16
unfolding quick_from longest body look_up settle resume step all_of run_quickly misplaced declarations faults_in names_arguments free resolved
the_own_name_of_a_function_is_not_assigned = refl

a_label_within_itself : shown (codes "a: a: ;") 10 ≡ breaks 11 3
unfolding quick_from longest body look_up settle resume step all_of run_quickly misplaced declarations faults_in names_arguments free resolved
a_label_within_itself = refl

a_continue_to_no_loop : shown (codes "a: continue a;") 10 ≡ breaks 11 3
unfolding quick_from longest body look_up settle resume step all_of run_quickly misplaced declarations faults_in names_arguments free resolved
a_continue_to_no_loop = refl

a_label_with_two_underscores : shown (codes "a__: ;") 10 ≡ breaks 1 0
unfolding quick_from longest body look_up settle resume step all_of run_quickly misplaced declarations faults_in names_arguments free resolved
a_label_with_two_underscores = refl

a_key_with_two_underscores : shown (codes "({}).a__;") 10 ≡ breaks 1 5
unfolding quick_from longest body look_up settle resume step all_of run_quickly misplaced declarations faults_in names_arguments free resolved
a_key_with_two_underscores = refl

pub the_first_of_two_faults : shown (codes "delete x;") 10 ≡ breaks 12 0
unfolding quick_from longest body look_up settle resume step all_of run_quickly misplaced declarations faults_in names_arguments free resolved
the_first_of_two_faults = refl

arguments_are_not_assigned : shown (codes "function f() { arguments = 1; }") 10 ≡ breaks 13 15
unfolding quick_from longest body look_up settle resume step all_of run_quickly misplaced declarations faults_in names_arguments free resolved
arguments_are_not_assigned = refl

a_text_that_is_no_program : shown (codes "if (") 10 ≡ unread
unfolding quick_from longest body look_up settle resume step all_of run_quickly misplaced declarations faults_in names_arguments free resolved
a_text_that_is_no_program = refl

a_text_that_is_not_cut : shown (codes "a = /b/;") 10 ≡ unread
unfolding quick_from longest body comment_end point cut_from look_up settle resume step all_of run_quickly misplaced declarations faults_in names_arguments free resolved
a_text_that_is_not_cut = refl
