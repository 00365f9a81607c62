-- Loops.
use Rattle.std.proofs.Common.{◌≡◌, [], ◌∷◌, refl}
use Rattle.std.specs.Prelude.{codes, pos}
use Rattle.std.specs.Fmt.{digits}
use Rattle.caja_units.specs.Index.{array_index}
use Rattle.es3_tokens.specs.Longest.{longest}
use Rattle.es3_tokens.specs.Texts.{body}
use Rattle.es3_tokens.specs.Quick.{quick_from}
use Rattle.es3_grammar.specs.Spots.{look_up}
use Rattle.es3_grammar.specs.Machine.{settle, resume, step, all_of}
use Rattle.es3_grammar.specs.Sums.{run_quickly}
use Rattle.es3_labels.specs.Misplaced.{misplaced}
use Rattle.cajita_names.specs.Declarations.{declarations}
use Rattle.cajita_rules.specs.Faults.{faults_in}
use Rattle.cajita_forms.specs.Arguments.{names_arguments}
use Rattle.scope_rules.specs.Free.{free}
use Rattle.scope_rules.specs.Resolve.{resolved}
use Rattle.rows.specs.Rows as r
use Rattle.rows.specs.Rows.{to_get, to_set, to_delete, to_has, to_keys, to_call}
use Rattle.rows.specs.Names.{of_cajita}
use Rattle.cajita_meaning.specs.World.{made_name, built_name, tools_name, number, text, object}
use Rattle.cajita_meaning.specs.Doing.{text_within}
use Rattle.cajita_meaning.specs.Direct.{gave, threw, made, got, touched}
use Rattle.cajita_shown.specs.Shown.{came, shown}

a_while_loop : shown (codes "var i = 0; while (i < 3) i++; i;") 30 ≡
    came (gave (number (pos 3))) 25 []
unfolding quick_from longest body look_up settle resume step all_of run_quickly misplaced declarations faults_in names_arguments free resolved
a_while_loop = refl

a_do_loop_runs_once : shown (codes "var i = 5; do { i++; } while (i < 3); i;") 20 ≡
    came (gave (number (pos 6))) 13 []
unfolding quick_from longest body look_up settle resume step all_of run_quickly misplaced declarations faults_in names_arguments free resolved
a_do_loop_runs_once = refl

a_for_loop_with_all_parts : shown (codes "var t = ''; for (var i = 0, n = 3; i < n; i++) t += i; t;") 40 ≡
    came (gave (text (codes "012"))) 35 []
unfolding quick_from longest body look_up settle resume step all_of run_quickly misplaced declarations faults_in names_arguments free resolved text_within digits
a_for_loop_with_all_parts = refl

a_for_loop_with_an_expression_first : shown (codes "var i; for (i = 2; i; i--) ; i;") 20 ≡
    came (gave (number (pos 0))) 15 []
unfolding quick_from longest body look_up settle resume step all_of run_quickly misplaced declarations faults_in names_arguments free resolved
a_for_loop_with_an_expression_first = refl

a_for_loop_without_parts : shown (codes "var i = 0; for (;;) { if (i === 2) break; i++; } i;") 30 ≡
    came (gave (number (pos 2))) 27 []
unfolding quick_from longest body look_up settle resume step all_of run_quickly misplaced declarations faults_in names_arguments free resolved
a_for_loop_without_parts = refl

for_in_over_a_record : shown (codes "var t = ''; for (var k in {x: 1, y: 2}) t += k; t;") 20 ≡
    came (gave (text (codes "xy"))) 19 (made 0 (made_name 0 0) ∷ touched 0 to_keys (made_name 0 0) [] ∷
    touched 0 to_has (made_name 0 0) (codes "x" ∷ []) ∷ touched 0 to_has (made_name 0 0) (codes "y" ∷ []) ∷ [])
unfolding quick_from longest body look_up settle resume step all_of run_quickly misplaced declarations faults_in names_arguments free resolved text_within
for_in_over_a_record = refl

for_in_over_an_array : shown (codes "var a = [5, 6], t = ''; for (var i in a) t += i + a[i]; t;") 30 ≡
    came (gave (text (codes "0516"))) 29 (made 0 (made_name 0 0) ∷ touched 0 to_keys (made_name 0 0) [] ∷
    touched 0 to_has (made_name 0 0) (codes "0" ∷ []) ∷ touched 0 to_get (made_name 0 0) (codes "0" ∷ []) ∷
    touched 0 to_has (made_name 0 0) (codes "1" ∷ []) ∷ touched 0 to_get (made_name 0 0) (codes "1" ∷ []) ∷ [])
unfolding quick_from longest body look_up settle resume step all_of run_quickly misplaced declarations faults_in names_arguments free resolved text_within digits array_index
for_in_over_an_array = refl

pub for_in_skips_a_key_that_was_deleted : shown (codes "var o = {x: 1, y: 2, z: 3}, t = ''; for (var k in o) { t += k; delete o.y; o.w = 4; } t;") 40 ≡
    came (gave (text (codes "xz"))) 39 (made 0 (made_name 0 0) ∷ touched 0 to_keys (made_name 0 0) [] ∷
    touched 0 to_has (made_name 0 0) (codes "x" ∷ []) ∷ touched 0 to_delete (made_name 0 0) (codes "y" ∷ []) ∷
    touched 0 to_set (made_name 0 0) (codes "w" ∷ []) ∷ touched 0 to_has (made_name 0 0) (codes "y" ∷ []) ∷
    touched 0 to_has (made_name 0 0) (codes "z" ∷ []) ∷ touched 0 to_delete (made_name 0 0) (codes "y" ∷ []) ∷
    touched 0 to_set (made_name 0 0) (codes "w" ∷ []) ∷ [])
unfolding quick_from longest body look_up settle resume step all_of run_quickly misplaced declarations faults_in names_arguments free resolved text_within
for_in_skips_a_key_that_was_deleted = refl

for_in_skips_an_item_that_was_taken : shown (codes "var a = [1, 2], t = ''; for (var k in a) { t += k; a.pop(); } t;") 30 ≡
    came (gave (text (codes "0"))) 23 (made 0 (made_name 0 0) ∷ touched 0 to_keys (made_name 0 0) [] ∷ touched 0 to_has (made_name 0 0) (codes "0" ∷ []) ∷
    touched 0 to_get (made_name 0 0) (codes "pop" ∷ []) ∷ got 0 (made_name 0 0) (built_name r.pop) ∷ touched 0 to_call (built_name r.pop) [] ∷
    touched 0 to_has (made_name 0 0) (codes "1" ∷ []) ∷ [])
unfolding quick_from longest body look_up settle resume step all_of run_quickly misplaced declarations faults_in names_arguments free resolved text_within digits array_index
for_in_skips_an_item_that_was_taken = refl

for_in_writes_a_member : shown (codes "var o = {}, t = ''; for (o.k in {a: 1, b: 2}) t += o.k; t;") 30 ≡
    came (gave (text (codes "ab"))) 24 (made 0 (made_name 0 0) ∷ made 0 (made_name 0 1) ∷ touched 0 to_keys (made_name 0 1) [] ∷
    touched 0 to_has (made_name 0 1) (codes "a" ∷ []) ∷ touched 0 to_set (made_name 0 0) (codes "k" ∷ []) ∷
    touched 0 to_get (made_name 0 0) (codes "k" ∷ []) ∷ touched 0 to_has (made_name 0 1) (codes "b" ∷ []) ∷
    touched 0 to_set (made_name 0 0) (codes "k" ∷ []) ∷ touched 0 to_get (made_name 0 0) (codes "k" ∷ []) ∷ [])
unfolding quick_from longest body look_up settle resume step all_of run_quickly misplaced declarations faults_in names_arguments free resolved text_within
for_in_writes_a_member = refl

for_in_over_null : shown (codes "for (var k in null) { }") 10 ≡
    came (threw (object (made_name 0 0))) 4 (made 0 (made_name 0 0) ∷ [])
unfolding quick_from longest body look_up settle resume step all_of run_quickly misplaced declarations faults_in names_arguments free resolved
for_in_over_null = refl

for_in_over_a_text : shown (codes "var t = 'a'; for (var k in 'xyz') t += k; t;") 10 ≡
    came (gave (text (codes "a"))) 9 []
unfolding quick_from longest body look_up settle resume step all_of run_quickly misplaced declarations faults_in names_arguments free resolved
for_in_over_a_text = refl

a_for_in_of_a_function : shown (codes "var t = 'a'; for (var k in Error) t += k; t;") 20 ≡
    came (gave (text (codes "a"))) 10 (touched 0 to_keys (built_name (r.makes r.error)) [] ∷ [])
unfolding quick_from longest body look_up settle resume step all_of run_quickly misplaced declarations faults_in names_arguments free resolved
a_for_in_of_a_function = refl

a_for_loop_without_a_test : shown (codes "for (var i = 0; ; i++) if (i > 1) break; i;") 30 ≡
    came (gave (number (pos 2))) 21 []
unfolding quick_from longest body look_up settle resume step all_of run_quickly misplaced declarations faults_in names_arguments free resolved
a_for_loop_without_a_test = refl

a_for_loop_without_a_step : shown (codes "var t = ''; for (var i = 2; i;) t += i--; t;") 20 ≡
    came (gave (text (codes "21"))) 18 []
unfolding quick_from longest body look_up settle resume step all_of run_quickly misplaced declarations faults_in names_arguments free resolved text_within digits
a_for_loop_without_a_step = refl

a_for_loop_with_commas : shown (codes "var i, j; for (i = 0, j = 4; i < j; i++, j--) ; i + j;") 40 ≡
    came (gave (number (pos 4))) 31 []
unfolding quick_from longest body look_up settle resume step all_of run_quickly misplaced declarations faults_in names_arguments free resolved
a_for_loop_with_commas = refl

for_in_writes_an_outer_variable : shown (codes "var k; for (k in {a: 1}) ; k;") 20 ≡
    came (gave (text (codes "a"))) 10 (made 0 (made_name 0 0) ∷ touched 0 to_keys (made_name 0 0) [] ∷
    touched 0 to_has (made_name 0 0) (codes "a" ∷ []) ∷ [])
unfolding quick_from longest body look_up settle resume step all_of run_quickly misplaced declarations faults_in names_arguments free resolved text_within
for_in_writes_an_outer_variable = refl

for_in_over_what_was_added : shown (codes "var o = {a: 1}, n = 0; for (var k in o) { o[k + 'x'] = 1; n++; } n + cajita.keys(o).join();") 40 ≡
    came (gave (text (codes "1a,ax"))) 31 (made 0 (made_name 0 0) ∷ touched 0 to_keys (made_name 0 0) [] ∷
    touched 0 to_has (made_name 0 0) (codes "a" ∷ []) ∷ touched 0 to_set (made_name 0 0) (codes "ax" ∷ []) ∷
    touched 0 to_get (tools_name of_cajita) (codes "keys" ∷ []) ∷ got 0 (tools_name of_cajita) (built_name r.keys) ∷
    touched 0 to_call (built_name r.keys) [] ∷ made 0 (made_name 0 1) ∷ touched 0 to_get (made_name 0 1) (codes "join" ∷ []) ∷
    got 0 (made_name 0 1) (built_name r.join) ∷ touched 0 to_call (built_name r.join) [] ∷ [])
unfolding quick_from longest body look_up settle resume step all_of run_quickly misplaced declarations faults_in names_arguments free resolved text_within digits array_index
for_in_over_what_was_added = refl

for_in_over_a_frozen_array : shown (codes "var t = ''; for (var i in cajita.freeze([{}, 2])) t += i; t;") 30 ≡
    came (gave (text (codes "01"))) 23 (made 0 (made_name 0 0) ∷ made 0 (made_name 0 1) ∷ touched 0 to_get (tools_name of_cajita) (codes "freeze" ∷ []) ∷
    got 0 (tools_name of_cajita) (built_name r.freeze) ∷ touched 0 to_call (built_name r.freeze) [] ∷ touched 0 to_keys (made_name 0 1) [] ∷
    touched 0 to_has (made_name 0 1) (codes "0" ∷ []) ∷ touched 0 to_has (made_name 0 1) (codes "1" ∷ []) ∷ [])
unfolding quick_from longest body look_up settle resume step all_of run_quickly misplaced declarations faults_in names_arguments free resolved text_within digits array_index
for_in_over_a_frozen_array = refl

for_in_over_undefined : shown (codes "var u, t = 'a'; try { for (var k in u) t += k; } catch (e) { t += e.message; } t;") 20 ≡
    came (gave (text (codes "ano object"))) 15 (made 0 (made_name 0 0) ∷ touched 0 to_get (made_name 0 0) (codes "message" ∷ []) ∷ [])
unfolding quick_from longest body look_up settle resume step all_of run_quickly misplaced declarations faults_in names_arguments free resolved text_within
for_in_over_undefined = refl

a_while_loop_with_a_text : shown (codes "var s = 'abc', n = 0; while (s) { s = s.slice(1); n++; } n;") 50 ≡
    came (gave (number (pos 3))) 40 (touched 0 to_call (built_name r.slice_text) [] ∷ touched 0 to_call (built_name r.slice_text) [] ∷
    touched 0 to_call (built_name r.slice_text) [] ∷ [])
unfolding quick_from longest body look_up settle resume step all_of run_quickly misplaced declarations faults_in names_arguments free resolved text_within
a_while_loop_with_a_text = refl

loops_within_loops : shown (codes "var t = ''; for (var i = 0; i < 2; i++) for (var j = 0; j < 2; j++) t += i * j; t;") 70 ≡
    came (gave (text (codes "0001"))) 67 []
unfolding quick_from longest body look_up settle resume step all_of run_quickly misplaced declarations faults_in names_arguments free resolved text_within digits
loops_within_loops = refl

for_in_evaluates_its_target_for_each_key : shown (codes "var n = 0, o = {}; for (o[n++] in {a: 1, b: 2}) ; cajita.keys(o).join() + n;") 30 ≡
    came (gave (text (codes "0,12"))) 28 (made 0 (made_name 0 0) ∷ made 0 (made_name 0 1) ∷ touched 0 to_keys (made_name 0 1) [] ∷
    touched 0 to_has (made_name 0 1) (codes "a" ∷ []) ∷ touched 0 to_set (made_name 0 0) (codes "0" ∷ []) ∷
    touched 0 to_has (made_name 0 1) (codes "b" ∷ []) ∷ touched 0 to_set (made_name 0 0) (codes "1" ∷ []) ∷
    touched 0 to_get (tools_name of_cajita) (codes "keys" ∷ []) ∷ got 0 (tools_name of_cajita) (built_name r.keys) ∷
    touched 0 to_call (built_name r.keys) [] ∷ made 0 (made_name 0 2) ∷ touched 0 to_get (made_name 0 2) (codes "join" ∷ []) ∷
    got 0 (made_name 0 2) (built_name r.join) ∷ touched 0 to_call (built_name r.join) [] ∷ [])
unfolding quick_from longest body look_up settle resume step all_of run_quickly misplaced declarations faults_in names_arguments free resolved text_within digits array_index
for_in_evaluates_its_target_for_each_key = refl

for_in_evaluates_no_target_for_a_deleted_key : shown (codes "var n = 0, r = {}, o = {a: 1, b: 2}; for (r[n++] in o) delete o.b; n;") 30 ≡
    came (gave (number (pos 1))) 21 (made 0 (made_name 0 0) ∷ made 0 (made_name 0 1) ∷ touched 0 to_keys (made_name 0 1) [] ∷
    touched 0 to_has (made_name 0 1) (codes "a" ∷ []) ∷ touched 0 to_set (made_name 0 0) (codes "0" ∷ []) ∷
    touched 0 to_delete (made_name 0 1) (codes "b" ∷ []) ∷ touched 0 to_has (made_name 0 1) (codes "b" ∷ []) ∷ [])
unfolding quick_from longest body look_up settle resume step all_of run_quickly misplaced declarations faults_in names_arguments free resolved text_within digits
for_in_evaluates_no_target_for_a_deleted_key = refl

for_in_into_a_frozen_record : shown (codes "var o = cajita.freeze({}), t = 'a'; try { for (o.k in {a: 1}) t = 'b'; } catch (e) { t += e.message; } t;") 30 ≡
    came (gave (text (codes "anot writable"))) 22 (made 0 (made_name 0 0) ∷ touched 0 to_get (tools_name of_cajita) (codes "freeze" ∷ []) ∷
    got 0 (tools_name of_cajita) (built_name r.freeze) ∷ touched 0 to_call (built_name r.freeze) [] ∷ made 0 (made_name 0 1) ∷
    touched 0 to_keys (made_name 0 1) [] ∷ touched 0 to_has (made_name 0 1) (codes "a" ∷ []) ∷ touched 0 to_set (made_name 0 0) (codes "k" ∷ []) ∷
    made 0 (made_name 0 2) ∷ touched 0 to_get (made_name 0 2) (codes "message" ∷ []) ∷ [])
unfolding quick_from longest body look_up settle resume step all_of run_quickly misplaced declarations faults_in names_arguments free resolved text_within
for_in_into_a_frozen_record = refl

for_in_deletes_the_key_it_visits : shown (codes "var o = {a: 1, b: 2}, t = ''; for (var k in o) { delete o[k]; t += k; } t + cajita.keys(o).length;") 40 ≡
    came (gave (text (codes "ab0"))) 38 (made 0 (made_name 0 0) ∷ touched 0 to_keys (made_name 0 0) [] ∷
    touched 0 to_has (made_name 0 0) (codes "a" ∷ []) ∷ touched 0 to_delete (made_name 0 0) (codes "a" ∷ []) ∷
    touched 0 to_has (made_name 0 0) (codes "b" ∷ []) ∷ touched 0 to_delete (made_name 0 0) (codes "b" ∷ []) ∷
    touched 0 to_get (tools_name of_cajita) (codes "keys" ∷ []) ∷ got 0 (tools_name of_cajita) (built_name r.keys) ∷
    touched 0 to_call (built_name r.keys) [] ∷ made 0 (made_name 0 1) ∷ touched 0 to_get (made_name 0 1) (codes "length" ∷ []) ∷ [])
unfolding quick_from longest body look_up settle resume step all_of run_quickly misplaced declarations faults_in names_arguments free resolved text_within digits
for_in_deletes_the_key_it_visits = refl
