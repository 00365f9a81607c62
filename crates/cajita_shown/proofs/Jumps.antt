-- Jumps out of loops and over them.
use Rattle.std.proofs.Common.{◌≡◌, [], ◌∷◌, refl}
use Rattle.std.specs.Prelude.{codes, pos}
use Rattle.std.specs.Fmt.{digits}
use Rattle.es3_tokens.specs.Longest.{longest}
use Rattle.es3_tokens.specs.Texts.{body}
use Rattle.es3_tokens.specs.Quick.{quick_from}
use Rattle.es3_grammar.specs.Spots.{look_up}
use Rattle.es3_grammar.specs.Machine.{settle, resume, step, all_of}
use Rattle.es3_grammar.specs.Sums.{run_quickly}
use Rattle.es3_labels.specs.Misplaced.{misplaced}
use Rattle.cajita_names.specs.Declarations.{declarations}
use Rattle.cajita_rules.specs.Faults.{faults_in}
use Rattle.cajita_forms.specs.Arguments.{names_arguments}
use Rattle.scope_rules.specs.Free.{free}
use Rattle.scope_rules.specs.Resolve.{resolved}
use Rattle.rows.specs.Rows.{to_has, to_keys, to_call}
use Rattle.cajita_meaning.specs.World.{made_name, number, text}
use Rattle.cajita_meaning.specs.Doing.{text_within}
use Rattle.cajita_meaning.specs.Direct.{gave, made, touched, passed}
use Rattle.cajita_shown.specs.Shown.{came, shown}

continue_in_each_loop : shown (codes "var t = '', i = 0; while (i < 3) { i++; if (i === 2) continue; t += i; } for (var j = 0; j < 3; j++) { if (j === 1) continue; t += j; } do { i--; if (i) continue; t += 'd'; } while (i); t;") 120 ≡
    came (gave (text (codes "1302d"))) 113 []
unfolding quick_from longest body look_up settle resume step all_of run_quickly misplaced declarations faults_in names_arguments free resolved text_within digits
continue_in_each_loop = refl

continue_in_a_for_in : shown (codes "var t = ''; for (var k in {a: 1, b: 2}) { if (k === 'a') continue; t += k; } t;") 30 ≡
    came (gave (text (codes "b"))) 27 (made 0 (made_name 0 0) ∷ touched 0 to_keys (made_name 0 0) [] ∷ touched 0 to_has (made_name 0 0) (codes "a" ∷ []) ∷
    touched 0 to_has (made_name 0 0) (codes "b" ∷ []) ∷ [])
unfolding quick_from longest body look_up settle resume step all_of run_quickly misplaced declarations faults_in names_arguments free resolved text_within
continue_in_a_for_in = refl

continue_to_an_outer_loop : shown (codes "var t = ''; out: for (var i = 0; i < 2; i++) { for (;;) { t += i; continue out; } } t;") 40 ≡
    came (gave (text (codes "01"))) 35 []
unfolding quick_from longest body look_up settle resume step all_of run_quickly misplaced declarations faults_in names_arguments free resolved text_within digits
continue_to_an_outer_loop = refl

break_out_of_an_outer_loop : shown (codes "var t = ''; out: while (true) { for (var k in {a: 1}) { t += k; break out; } } t;") 30 ≡
    came (gave (text (codes "a"))) 20 (made 0 (made_name 0 0) ∷ touched 0 to_keys (made_name 0 0) [] ∷
    touched 0 to_has (made_name 0 0) (codes "a" ∷ []) ∷ [])
unfolding quick_from longest body look_up settle resume step all_of run_quickly misplaced declarations faults_in names_arguments free resolved text_within
break_out_of_an_outer_loop = refl

break_ends_the_inner_loop : shown (codes "var t = ''; for (var i = 0; i < 2; i++) { while (true) { break; } t += i; } t;") 40 ≡
    came (gave (text (codes "01"))) 36 []
unfolding quick_from longest body look_up settle resume step all_of run_quickly misplaced declarations faults_in names_arguments free resolved text_within digits
break_ends_the_inner_loop = refl

return_from_a_loop : shown (codes "function f(o) { for (var k in o) { while (true) { return k; } } } f({a: 1, b: 2});") 20 ≡
    came (gave (text (codes "a"))) 19 (made 0 (made_name 0 0) ∷ made 0 (made_name 0 1) ∷ touched 0 to_call (made_name 0 0) [] ∷
    passed 0 0 (made_name 0 1) ∷ touched 0 to_keys (made_name 0 1) [] ∷ touched 0 to_has (made_name 0 1) (codes "a" ∷ []) ∷ [])
unfolding quick_from longest body look_up settle resume step all_of run_quickly misplaced declarations faults_in names_arguments free resolved text_within
return_from_a_loop = refl

a_break_in_a_switch_in_a_loop : shown (codes "var t = ''; for (var i = 0; i < 2; i++) { switch (i) { case 0: continue; default: t += i; break; } t += 'x'; } t;") 40 ≡
    came (gave (text (codes "1x"))) 36 []
unfolding quick_from longest body look_up settle resume step all_of run_quickly misplaced declarations faults_in names_arguments free resolved text_within digits
a_break_in_a_switch_in_a_loop = refl

a_label_of_a_do_loop : shown (codes "var i = 0; out: do { i++; while (true) { if (i < 3) continue out; break out; } } while (true); i;") 50 ≡
    came (gave (number (pos 3))) 43 []
unfolding quick_from longest body look_up settle resume step all_of run_quickly misplaced declarations faults_in names_arguments free resolved
a_label_of_a_do_loop = refl

a_continue_to_a_for_in : shown (codes "var t = ''; out: for (var k in {a: 1, b: 2}) { for (var j in {x: 1, y: 2}) { t += k + j; continue out; } } t;") 50 ≡
    came (gave (text (codes "axbx"))) 41 (made 0 (made_name 0 0) ∷ touched 0 to_keys (made_name 0 0) [] ∷
    touched 0 to_has (made_name 0 0) (codes "a" ∷ []) ∷ made 0 (made_name 0 1) ∷ touched 0 to_keys (made_name 0 1) [] ∷
    touched 0 to_has (made_name 0 1) (codes "x" ∷ []) ∷ touched 0 to_has (made_name 0 0) (codes "b" ∷ []) ∷ made 0 (made_name 0 2) ∷
    touched 0 to_keys (made_name 0 2) [] ∷ touched 0 to_has (made_name 0 2) (codes "x" ∷ []) ∷ [])
unfolding quick_from longest body look_up settle resume step all_of run_quickly misplaced declarations faults_in names_arguments free resolved text_within
a_continue_to_a_for_in = refl

two_labels_of_one_loop : shown (codes "var i = 0; a: b: while (true) { i++; if (i < 2) continue a; break b; } i;") 30 ≡
    came (gave (number (pos 2))) 27 []
unfolding quick_from longest body look_up settle resume step all_of run_quickly misplaced declarations faults_in names_arguments free resolved
two_labels_of_one_loop = refl

a_break_out_of_a_labelled_if : shown (codes "var t = 'a'; l: if (t) { t += 'b'; break l; } t;") 20 ≡
    came (gave (text (codes "ab"))) 14 []
unfolding quick_from longest body look_up settle resume step all_of run_quickly misplaced declarations faults_in names_arguments free resolved text_within
a_break_out_of_a_labelled_if = refl

a_return_through_two_finallys : shown (codes "var t = ''; function f() { try { try { return 'r'; } finally { t += 'a'; } } finally { t += 'b'; } } f() + t;") 30 ≡
    came (gave (text (codes "rab"))) 20 (made 0 (made_name 0 0) ∷ touched 0 to_call (made_name 0 0) [] ∷ [])
unfolding quick_from longest body look_up settle resume step all_of run_quickly misplaced declarations faults_in names_arguments free resolved text_within
a_return_through_two_finallys = refl
