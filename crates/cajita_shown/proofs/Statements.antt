-- Statements that are no loops: blocks, variables, `if`, `switch`, `throw`, `try`.
use Rattle.std.proofs.Common.{◌≡◌, [], ◌∷◌, refl}
use Rattle.std.specs.Prelude.{codes, pos}
use Rattle.std.specs.Fmt.{digits}
use Rattle.caja_units.specs.Index.{array_index}
use Rattle.es3_tokens.specs.Longest.{longest}
use Rattle.es3_tokens.specs.Texts.{body}
use Rattle.es3_tokens.specs.Quick.{quick_from}
use Rattle.es3_grammar.specs.Spots.{look_up}
use Rattle.es3_grammar.specs.Machine.{settle, resume, step, all_of}
use Rattle.es3_grammar.specs.Sums.{run_quickly}
use Rattle.es3_labels.specs.Misplaced.{misplaced}
use Rattle.cajita_names.specs.Declarations.{declarations}
use Rattle.cajita_rules.specs.Faults.{faults_in}
use Rattle.cajita_forms.specs.Arguments.{names_arguments}
use Rattle.scope_rules.specs.Free.{free}
use Rattle.scope_rules.specs.Resolve.{resolved}
use Rattle.rows.specs.Rows as r
use Rattle.rows.specs.Rows.{to_get, to_call}
use Rattle.cajita_meaning.specs.World.{made_name, built_name, number, text, object}
use Rattle.cajita_meaning.specs.Doing.{text_within}
use Rattle.cajita_meaning.specs.Direct.{gave, threw, made, got, touched, passed}
use Rattle.cajita_shown.specs.Shown.{came, shown}

blocks_and_the_empty_statement : shown (codes "{ ; { var x = 1; } } x;") 10 ≡
    came (gave (number (pos 1))) 9 []
unfolding quick_from longest body look_up settle resume step all_of run_quickly misplaced declarations faults_in names_arguments free resolved
blocks_and_the_empty_statement = refl

several_variables : shown (codes "var a = 1, b, c = [a]; c.length;") 20 ≡
    came (gave (number (pos 1))) 11 (made 0 (made_name 0 0) ∷ touched 0 to_get (made_name 0 0) (codes "length" ∷ []) ∷ [])
unfolding quick_from longest body look_up settle resume step all_of run_quickly misplaced declarations faults_in names_arguments free resolved text_within
several_variables = refl

if_and_else : shown (codes "var t = ''; if (1) t += 'a'; else t += 'b'; if (0) t += 'c'; else t += 'd'; if ('') t += 'e'; t;") 20 ≡
    came (gave (text (codes "ad"))) 18 []
unfolding quick_from longest body look_up settle resume step all_of run_quickly misplaced declarations faults_in names_arguments free resolved text_within
if_and_else = refl

pub a_switch_falls_through : shown (codes "function f(x) { var t = ''; switch (x) { case 1: t += 'a'; default: t += 'd'; case 2: t += 'b'; break; case 3: t += 'c'; } return t; } [f(1), f(2), f(3), f('1')].join();") 90 ≡
    came (gave (text (codes "adb,b,c,db"))) 83 (made 0 (made_name 0 0) ∷ touched 0 to_call (made_name 0 0) [] ∷ touched 0 to_call (made_name 0 0) [] ∷
    touched 0 to_call (made_name 0 0) [] ∷ touched 0 to_call (made_name 0 0) [] ∷ made 0 (made_name 0 1) ∷
    touched 0 to_get (made_name 0 1) (codes "join" ∷ []) ∷ got 0 (made_name 0 1) (built_name r.join) ∷ touched 0 to_call (built_name r.join) [] ∷ [])
unfolding quick_from longest body look_up settle resume step all_of run_quickly misplaced declarations faults_in names_arguments free resolved text_within digits array_index
a_switch_falls_through = refl

a_switch_compares_strictly_and_in_order : shown (codes "var t = ''; function k(x) { t += x; return x; } switch (2) { case k('2'): t += 'x'; case k(2): t += 'y'; break; case k(3): t += 'z'; } t;") 40 ≡
    came (gave (text (codes "22y"))) 31 (made 0 (made_name 0 0) ∷ touched 0 to_call (made_name 0 0) [] ∷ touched 0 to_call (made_name 0 0) [] ∷ [])
unfolding quick_from longest body look_up settle resume step all_of run_quickly misplaced declarations faults_in names_arguments free resolved text_within digits
a_switch_compares_strictly_and_in_order = refl

a_switch_without_a_match : shown (codes "switch (5) { case 1: 2; } switch (6) { } 7;") 10 ≡
    came (gave (number (pos 7))) 8 []
unfolding quick_from longest body look_up settle resume step all_of run_quickly misplaced declarations faults_in names_arguments free resolved
a_switch_without_a_match = refl

a_block_with_a_label_is_left : shown (codes "var t = 'a'; out: { t += 'b'; if (t) break out; t += 'c'; } t;") 20 ≡
    came (gave (text (codes "ab"))) 14 []
unfolding quick_from longest body look_up settle resume step all_of run_quickly misplaced declarations faults_in names_arguments free resolved text_within
a_block_with_a_label_is_left = refl

a_throw_ends_the_load : shown (codes "var x = 1; throw {x: x}; x = 2;") 10 ≡
    came (threw (object (made_name 0 0))) 7 (made 0 (made_name 0 0) ∷ [])
unfolding quick_from longest body look_up settle resume step all_of run_quickly misplaced declarations faults_in names_arguments free resolved
a_throw_ends_the_load = refl

a_thrown_text : shown (codes "throw 'ab' + 1;") 10 ≡
    came (threw (text (codes "ab1"))) 5 []
unfolding quick_from longest body look_up settle resume step all_of run_quickly misplaced declarations faults_in names_arguments free resolved text_within digits
a_thrown_text = refl

a_throw_is_caught : shown (codes "var g; try { throw 7; } catch (e) { g = function () { return e; }; } g();") 20 ≡
    came (gave (number (pos 7))) 14 (made 0 (made_name 0 0) ∷ touched 0 to_call (made_name 0 0) [] ∷ [])
unfolding quick_from longest body look_up settle resume step all_of run_quickly misplaced declarations faults_in names_arguments free resolved
a_throw_is_caught = refl

no_throw_no_catch : shown (codes "var t = 'a'; try { t += 'b'; } catch (e) { t += 'c'; } finally { t += 'd'; } t;") 20 ≡
    came (gave (text (codes "abd"))) 13 []
unfolding quick_from longest body look_up settle resume step all_of run_quickly misplaced declarations faults_in names_arguments free resolved text_within
no_throw_no_catch = refl

a_catch_and_a_finally : shown (codes "var t = ''; try { try { throw 'x'; } catch (e) { t += e; throw 'y'; } finally { t += 'f'; } } catch (e) { t += e; } t;") 30 ≡
    came (gave (text (codes "xfy"))) 21 []
unfolding quick_from longest body look_up settle resume step all_of run_quickly misplaced declarations faults_in names_arguments free resolved text_within
a_catch_and_a_finally = refl

pub a_finally_keeps_the_throw : shown (codes "try { throw 'x'; } finally { 5; }") 10 ≡
    came (threw (text (codes "x"))) 6 []
unfolding quick_from longest body look_up settle resume step all_of run_quickly misplaced declarations faults_in names_arguments free resolved
a_finally_keeps_the_throw = refl

pub a_finally_that_returns : shown (codes "function f() { try { throw 1; } finally { return 2; } } f();") 20 ≡
    came (gave (number (pos 2))) 10 (made 0 (made_name 0 0) ∷ touched 0 to_call (made_name 0 0) [] ∷ [])
unfolding quick_from longest body look_up settle resume step all_of run_quickly misplaced declarations faults_in names_arguments free resolved
a_finally_that_returns = refl

a_return_passes_a_finally : shown (codes "var t = ''; function f() { try { return t; } finally { t = 'f'; } } f() + t;") 20 ≡
    came (gave (text (codes "f"))) 16 (made 0 (made_name 0 0) ∷ touched 0 to_call (made_name 0 0) [] ∷ [])
unfolding quick_from longest body look_up settle resume step all_of run_quickly misplaced declarations faults_in names_arguments free resolved text_within
a_return_passes_a_finally = refl

a_break_passes_a_finally : shown (codes "var t = ''; while (true) { try { break; } finally { t += 'f'; } } t;") 20 ≡
    came (gave (text (codes "f"))) 14 []
unfolding quick_from longest body look_up settle resume step all_of run_quickly misplaced declarations faults_in names_arguments free resolved text_within
a_break_passes_a_finally = refl

a_finally_that_breaks_drops_the_throw : shown (codes "var t = 'a'; while (true) { try { throw t; } finally { break; } } t;") 20 ≡
    came (gave (text (codes "a"))) 13 []
unfolding quick_from longest body look_up settle resume step all_of run_quickly misplaced declarations faults_in names_arguments free resolved
a_finally_that_breaks_drops_the_throw = refl

a_catch_masks_nothing_outside : shown (codes "var r; try { throw 1; } catch (e) { r = e; e = 2; r += e; } r;") 20 ≡
    came (gave (number (pos 3))) 17 []
unfolding quick_from longest body look_up settle resume step all_of run_quickly misplaced declarations faults_in names_arguments free resolved
a_catch_masks_nothing_outside = refl

an_else_belongs_to_the_nearest_if : shown (codes "var t = 'a'; if (1) if (0) t = 'b'; else t = 'c'; t;") 20 ≡
    came (gave (text (codes "c"))) 13 []
unfolding quick_from longest body look_up settle resume step all_of run_quickly misplaced declarations faults_in names_arguments free resolved
an_else_belongs_to_the_nearest_if = refl

a_finally_that_throws : shown (codes "try { throw 'x'; } finally { throw 'y'; }") 10 ≡
    came (threw (text (codes "y"))) 6 []
unfolding quick_from longest body look_up settle resume step all_of run_quickly misplaced declarations faults_in names_arguments free resolved
a_finally_that_throws = refl

a_throw_in_a_catch_passes_its_finally : shown (codes "var t = ''; function f() { try { throw 'x'; } catch (e) { throw e + 'y'; } finally { t += 'f'; } } try { f(); } catch (e) { t += e; } t;") 30 ≡
    came (gave (text (codes "fxy"))) 24 (made 0 (made_name 0 0) ∷ touched 0 to_call (made_name 0 0) [] ∷ [])
unfolding quick_from longest body look_up settle resume step all_of run_quickly misplaced declarations faults_in names_arguments free resolved text_within
a_throw_in_a_catch_passes_its_finally = refl

a_finally_that_returns_drops_the_return : shown (codes "function f() { try { return 1; } finally { return 2; } } f();") 20 ≡
    came (gave (number (pos 2))) 10 (made 0 (made_name 0 0) ∷ touched 0 to_call (made_name 0 0) [] ∷ [])
unfolding quick_from longest body look_up settle resume step all_of run_quickly misplaced declarations faults_in names_arguments free resolved
a_finally_that_returns_drops_the_return = refl

a_value_is_returned_before_the_finally : shown (codes "function f() { var x = 1; try { return x; } finally { x = 2; } } f();") 20 ≡
    came (gave (number (pos 1))) 14 (made 0 (made_name 0 0) ∷ touched 0 to_call (made_name 0 0) [] ∷ [])
unfolding quick_from longest body look_up settle resume step all_of run_quickly misplaced declarations faults_in names_arguments free resolved
a_value_is_returned_before_the_finally = refl

a_continue_passes_a_finally : shown (codes "var t = ''; for (var i = 0; i < 2; i++) { try { continue; } finally { t += i; } } t;") 40 ≡
    came (gave (text (codes "01"))) 32 []
unfolding quick_from longest body look_up settle resume step all_of run_quickly misplaced declarations faults_in names_arguments free resolved text_within digits
a_continue_passes_a_finally = refl

a_throw_crosses_calls : shown (codes "function f() { throw [1]; } function g() { f(); return 2; } var r; try { g(); } catch (e) { r = e; } r[0];") 30 ≡
    came (gave (number (pos 1))) 22 (made 0 (made_name 0 0) ∷ made 0 (made_name 0 1) ∷ touched 0 to_call (made_name 0 1) [] ∷
    touched 0 to_call (made_name 0 0) [] ∷ made 0 (made_name 0 2) ∷ passed 0 0 (made_name 0 2) ∷ passed 0 0 (made_name 0 2) ∷
    touched 0 to_get (made_name 0 2) (codes "0" ∷ []) ∷ [])
unfolding quick_from longest body look_up settle resume step all_of run_quickly misplaced declarations faults_in names_arguments free resolved text_within digits array_index
a_throw_crosses_calls = refl

a_switch_with_the_default_first : shown (codes "var t = ''; switch (7) { default: t += 'd'; case 1: t += 'a'; break; case 2: t += 'b'; } t;") 20 ≡
    came (gave (text (codes "da"))) 17 []
unfolding quick_from longest body look_up settle resume step all_of run_quickly misplaced declarations faults_in names_arguments free resolved text_within
a_switch_with_the_default_first = refl

a_switch_with_a_label : shown (codes "var t = ''; l: switch (1) { case 1: for (;;) { t += 'a'; break l; } case 2: t += 'b'; } t;") 20 ≡
    came (gave (text (codes "a"))) 16 []
unfolding quick_from longest body look_up settle resume step all_of run_quickly misplaced declarations faults_in names_arguments free resolved text_within
a_switch_with_a_label = refl

nested_blocks_in_a_try : shown (codes "var t = ''; try { { t += 'a'; { throw t; } } } catch (e) { t += e; } t;") 20 ≡
    came (gave (text (codes "aa"))) 17 []
unfolding quick_from longest body look_up settle resume step all_of run_quickly misplaced declarations faults_in names_arguments free resolved text_within
nested_blocks_in_a_try = refl
