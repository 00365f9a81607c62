-- The methods of arrays.
use Rattle.std.proofs.Common.{◌≡◌, [], ◌∷◌, refl}
use Rattle.std.specs.Prelude.{codes, pos, true}
use Rattle.std.specs.Fmt.{digits}
use Rattle.caja_units.specs.Index.{array_index}
use Rattle.es3_tokens.specs.Longest.{longest}
use Rattle.es3_tokens.specs.Texts.{body}
use Rattle.es3_tokens.specs.Quick.{quick_from}
use Rattle.es3_grammar.specs.Spots.{look_up}
use Rattle.es3_grammar.specs.Machine.{settle, resume, step, all_of}
use Rattle.es3_grammar.specs.Sums.{run_quickly}
use Rattle.es3_labels.specs.Misplaced.{misplaced}
use Rattle.cajita_names.specs.Declarations.{declarations}
use Rattle.cajita_rules.specs.Faults.{faults_in}
use Rattle.cajita_forms.specs.Arguments.{names_arguments}
use Rattle.scope_rules.specs.Free.{free}
use Rattle.scope_rules.specs.Resolve.{resolved}
use Rattle.rows.specs.Rows as r
use Rattle.rows.specs.Rows.{to_get, to_set, to_delete, to_call}
use Rattle.rows.specs.Names.{of_cajita}
use Rattle.cajita_meaning.specs.World.{made_name, built_name, tools_name, truth, number, text, object}
use Rattle.cajita_meaning.specs.Doing.{text_within}
use Rattle.cajita_meaning.specs.Direct.{gave, threw, made, got, touched}
use Rattle.cajita_shown.specs.Shown.{came, shown}

pub an_array_grows_at_its_end_only : shown (codes "var a = [5]; a[a.length] = 6; var t = ''; try { a[a.length + 1] = 7; } catch (e) { t += 'x'; } try { a['01'] = 7; } catch (e) { t += 'y'; } a.join('-') + t;") 50 ≡
    came (gave (text (codes "5-6xy"))) 42 (made 0 (made_name 0 0) ∷ touched 0 to_get (made_name 0 0) (codes "length" ∷ []) ∷
    touched 0 to_set (made_name 0 0) (codes "1" ∷ []) ∷ touched 0 to_get (made_name 0 0) (codes "length" ∷ []) ∷
    touched 0 to_set (made_name 0 0) (codes "3" ∷ []) ∷ made 0 (made_name 0 1) ∷ touched 0 to_set (made_name 0 0) (codes "01" ∷ []) ∷
    made 0 (made_name 0 2) ∷ touched 0 to_get (made_name 0 0) (codes "join" ∷ []) ∷ got 0 (made_name 0 0) (built_name r.join) ∷
    touched 0 to_call (built_name r.join) [] ∷ [])
unfolding quick_from longest body look_up settle resume step all_of run_quickly misplaced declarations faults_in names_arguments free resolved text_within digits array_index
an_array_grows_at_its_end_only = refl

an_item_is_changed : shown (codes "var a = [1, 2]; a[0] = 3; a['1'] += 4; a.join();") 30 ≡
    came (gave (text (codes "3,6"))) 20 (made 0 (made_name 0 0) ∷ touched 0 to_set (made_name 0 0) (codes "0" ∷ []) ∷
    touched 0 to_get (made_name 0 0) (codes "1" ∷ []) ∷ touched 0 to_set (made_name 0 0) (codes "1" ∷ []) ∷
    touched 0 to_get (made_name 0 0) (codes "join" ∷ []) ∷ got 0 (made_name 0 0) (built_name r.join) ∷ touched 0 to_call (built_name r.join) [] ∷ [])
unfolding quick_from longest body look_up settle resume step all_of run_quickly misplaced declarations faults_in names_arguments free resolved text_within digits array_index
an_item_is_changed = refl

an_array_loses_nothing : shown (codes "var a = [1]; delete a[0];") 10 ≡
    came (threw (object (made_name 0 1))) 9 (made 0 (made_name 0 0) ∷ touched 0 to_delete (made_name 0 0) (codes "0" ∷ []) ∷ made 0 (made_name 0 1) ∷ [])
unfolding quick_from longest body look_up settle resume step all_of run_quickly misplaced declarations faults_in names_arguments free resolved text_within digits
an_array_loses_nothing = refl

a_length_is_not_written : shown (codes "var a = [1]; a.length = 0;") 10 ≡
    came (threw (object (made_name 0 1))) 9 (made 0 (made_name 0 0) ∷ touched 0 to_set (made_name 0 0) (codes "length" ∷ []) ∷
    made 0 (made_name 0 1) ∷ [])
unfolding quick_from longest body look_up settle resume step all_of run_quickly misplaced declarations faults_in names_arguments free resolved text_within digits array_index
a_length_is_not_written = refl

joins : shown (codes "[[1, null, undefined, 'x', [2, 3]].join(), [].join('-'), [1, 2].join(0), [1, 2].join('')].join('|');") 40 ≡
    came (gave (text (codes "1,,,x,2,3||102|12"))) 33 (made 0 (made_name 0 0) ∷ made 0 (made_name 0 1) ∷
    touched 0 to_get (made_name 0 1) (codes "join" ∷ []) ∷ got 0 (made_name 0 1) (built_name r.join) ∷ touched 0 to_call (built_name r.join) [] ∷
    made 0 (made_name 0 2) ∷ touched 0 to_get (made_name 0 2) (codes "join" ∷ []) ∷ got 0 (made_name 0 2) (built_name r.join) ∷
    touched 0 to_call (built_name r.join) [] ∷ made 0 (made_name 0 3) ∷ touched 0 to_get (made_name 0 3) (codes "join" ∷ []) ∷
    got 0 (made_name 0 3) (built_name r.join) ∷ touched 0 to_call (built_name r.join) [] ∷ made 0 (made_name 0 4) ∷
    touched 0 to_get (made_name 0 4) (codes "join" ∷ []) ∷ got 0 (made_name 0 4) (built_name r.join) ∷ touched 0 to_call (built_name r.join) [] ∷
    made 0 (made_name 0 5) ∷ touched 0 to_get (made_name 0 5) (codes "join" ∷ []) ∷ got 0 (made_name 0 5) (built_name r.join) ∷
    touched 0 to_call (built_name r.join) [] ∷ [])
unfolding quick_from longest body look_up settle resume step all_of run_quickly misplaced declarations faults_in names_arguments free resolved text_within digits array_index
joins = refl

concat_takes_items_and_values : shown (codes "var o = {}; var a = [o].concat(5, [o, 6], 'x'); a.length + a.join();") 30 ≡
    came (gave (text (codes "5[object Object],5,[object Object],6,x"))) 22 (made 0 (made_name 0 0) ∷ made 0 (made_name 0 1) ∷ made 0 (made_name 0 2) ∷
    touched 0 to_get (made_name 0 1) (codes "concat" ∷ []) ∷ got 0 (made_name 0 1) (built_name r.concat) ∷ touched 0 to_call (built_name r.concat) [] ∷
    got 0 (made_name 0 1) (made_name 0 0) ∷ got 0 (made_name 0 2) (made_name 0 0) ∷ made 0 (made_name 0 3) ∷
    touched 0 to_get (made_name 0 3) (codes "length" ∷ []) ∷ touched 0 to_get (made_name 0 3) (codes "join" ∷ []) ∷
    got 0 (made_name 0 3) (built_name r.join) ∷ touched 0 to_call (built_name r.join) [] ∷ [])
unfolding quick_from longest body look_up settle resume step all_of run_quickly misplaced declarations faults_in names_arguments free resolved text_within digits array_index
concat_takes_items_and_values = refl

slices : shown (codes "var a = [1, 2, 3]; [a.slice(), a.slice(1), a.slice(-2, 3), a.slice(2, 1).length, a.slice(0, 9)].join('|');") 40 ≡
    came (gave (text (codes "1,2,3|2,3|2,3|0|1,2,3"))) 36 (made 0 (made_name 0 0) ∷ touched 0 to_get (made_name 0 0) (codes "slice" ∷ []) ∷
    got 0 (made_name 0 0) (built_name r.slice) ∷ touched 0 to_call (built_name r.slice) [] ∷ made 0 (made_name 0 1) ∷
    touched 0 to_get (made_name 0 0) (codes "slice" ∷ []) ∷ got 0 (made_name 0 0) (built_name r.slice) ∷ touched 0 to_call (built_name r.slice) [] ∷
    made 0 (made_name 0 2) ∷ touched 0 to_get (made_name 0 0) (codes "slice" ∷ []) ∷ got 0 (made_name 0 0) (built_name r.slice) ∷
    touched 0 to_call (built_name r.slice) [] ∷ made 0 (made_name 0 3) ∷ touched 0 to_get (made_name 0 0) (codes "slice" ∷ []) ∷
    got 0 (made_name 0 0) (built_name r.slice) ∷ touched 0 to_call (built_name r.slice) [] ∷ made 0 (made_name 0 4) ∷
    touched 0 to_get (made_name 0 4) (codes "length" ∷ []) ∷ touched 0 to_get (made_name 0 0) (codes "slice" ∷ []) ∷
    got 0 (made_name 0 0) (built_name r.slice) ∷ touched 0 to_call (built_name r.slice) [] ∷ made 0 (made_name 0 5) ∷ made 0 (made_name 0 6) ∷
    touched 0 to_get (made_name 0 6) (codes "join" ∷ []) ∷ got 0 (made_name 0 6) (built_name r.join) ∷ touched 0 to_call (built_name r.join) [] ∷ [])
unfolding quick_from longest body look_up settle resume step all_of run_quickly misplaced declarations faults_in names_arguments free resolved text_within digits array_index
slices = refl

a_slice_gets_its_objects : shown (codes "var o = {}; [1, o, 2].slice(1, 2)[0] === o;") 20 ≡
    came (gave (truth true)) 17 (made 0 (made_name 0 0) ∷ made 0 (made_name 0 1) ∷ touched 0 to_get (made_name 0 1) (codes "slice" ∷ []) ∷
    got 0 (made_name 0 1) (built_name r.slice) ∷ touched 0 to_call (built_name r.slice) [] ∷ got 0 (made_name 0 1) (made_name 0 0) ∷
    made 0 (made_name 0 2) ∷ touched 0 to_get (made_name 0 2) (codes "0" ∷ []) ∷ got 0 (made_name 0 2) (made_name 0 0) ∷ [])
unfolding quick_from longest body look_up settle resume step all_of run_quickly misplaced declarations faults_in names_arguments free resolved text_within digits array_index
a_slice_gets_its_objects = refl

push_and_unshift : shown (codes "var a = [2]; [a.push(), a.push(3, 4), a.unshift(0, 1), a].join('|');") 30 ≡
    came (gave (text (codes "1|3|5|0,1,2,3,4"))) 24 (made 0 (made_name 0 0) ∷ touched 0 to_get (made_name 0 0) (codes "push" ∷ []) ∷
    got 0 (made_name 0 0) (built_name r.push) ∷ touched 0 to_call (built_name r.push) [] ∷ touched 0 to_get (made_name 0 0) (codes "push" ∷ []) ∷
    got 0 (made_name 0 0) (built_name r.push) ∷ touched 0 to_call (built_name r.push) [] ∷ touched 0 to_get (made_name 0 0) (codes "unshift" ∷ []) ∷
    got 0 (made_name 0 0) (built_name r.unshift) ∷ touched 0 to_call (built_name r.unshift) [] ∷ made 0 (made_name 0 1) ∷
    touched 0 to_get (made_name 0 1) (codes "join" ∷ []) ∷ got 0 (made_name 0 1) (built_name r.join) ∷ touched 0 to_call (built_name r.join) [] ∷ [])
unfolding quick_from longest body look_up settle resume step all_of run_quickly misplaced declarations faults_in names_arguments free resolved text_within digits array_index
push_and_unshift = refl

pop_and_shift : shown (codes "var o = {}; var a = [o, 1, 2]; [a.pop(), a.shift() === o, a, [].pop(), [].shift()].join('|');") 40 ≡
    came (gave (text (codes "2|true|1||"))) 30 (made 0 (made_name 0 0) ∷ made 0 (made_name 0 1) ∷ touched 0 to_get (made_name 0 1) (codes "pop" ∷ []) ∷
    got 0 (made_name 0 1) (built_name r.pop) ∷ touched 0 to_call (built_name r.pop) [] ∷ touched 0 to_get (made_name 0 1) (codes "shift" ∷ []) ∷
    got 0 (made_name 0 1) (built_name r.shift) ∷ touched 0 to_call (built_name r.shift) [] ∷ got 0 (made_name 0 1) (made_name 0 0) ∷
    made 0 (made_name 0 2) ∷ touched 0 to_get (made_name 0 2) (codes "pop" ∷ []) ∷ got 0 (made_name 0 2) (built_name r.pop) ∷
    touched 0 to_call (built_name r.pop) [] ∷ made 0 (made_name 0 3) ∷ touched 0 to_get (made_name 0 3) (codes "shift" ∷ []) ∷
    got 0 (made_name 0 3) (built_name r.shift) ∷ touched 0 to_call (built_name r.shift) [] ∷ made 0 (made_name 0 4) ∷
    touched 0 to_get (made_name 0 4) (codes "join" ∷ []) ∷ got 0 (made_name 0 4) (built_name r.join) ∷ touched 0 to_call (built_name r.join) [] ∷ [])
unfolding quick_from longest body look_up settle resume step all_of run_quickly misplaced declarations faults_in names_arguments free resolved text_within digits array_index
pop_and_shift = refl

reverse_gives_the_array : shown (codes "var a = [1, 2, 3]; a.reverse() === a ? a.join() : 0;") 20 ≡
    came (gave (text (codes "3,2,1"))) 17 (made 0 (made_name 0 0) ∷ touched 0 to_get (made_name 0 0) (codes "reverse" ∷ []) ∷
    got 0 (made_name 0 0) (built_name r.turn) ∷ touched 0 to_call (built_name r.turn) [] ∷ touched 0 to_get (made_name 0 0) (codes "join" ∷ []) ∷
    got 0 (made_name 0 0) (built_name r.join) ∷ touched 0 to_call (built_name r.join) [] ∷ [])
unfolding quick_from longest body look_up settle resume step all_of run_quickly misplaced declarations faults_in names_arguments free resolved text_within digits array_index
reverse_gives_the_array = refl

pub a_frozen_array_is_not_pushed : shown (codes "cajita.freeze([1]).push(2);") 20 ≡
    came (threw (object (made_name 0 1))) 11 (made 0 (made_name 0 0) ∷ touched 0 to_get (tools_name of_cajita) (codes "freeze" ∷ []) ∷
    got 0 (tools_name of_cajita) (built_name r.freeze) ∷ touched 0 to_call (built_name r.freeze) [] ∷
    touched 0 to_get (made_name 0 0) (codes "push" ∷ []) ∷ got 0 (made_name 0 0) (built_name r.push) ∷ touched 0 to_call (built_name r.push) [] ∷
    made 0 (made_name 0 1) ∷ [])
unfolding quick_from longest body look_up settle resume step all_of run_quickly misplaced declarations faults_in names_arguments free resolved text_within digits array_index
a_frozen_array_is_not_pushed = refl

a_frozen_array_is_not_written : shown (codes "var a = cajita.freeze([1]); a[1] = 2;") 20 ≡
    came (threw (object (made_name 0 1))) 14 (made 0 (made_name 0 0) ∷ touched 0 to_get (tools_name of_cajita) (codes "freeze" ∷ []) ∷
    got 0 (tools_name of_cajita) (built_name r.freeze) ∷ touched 0 to_call (built_name r.freeze) [] ∷ touched 0 to_set (made_name 0 0) (codes "1" ∷ []) ∷
    made 0 (made_name 0 1) ∷ [])
unfolding quick_from longest body look_up settle resume step all_of run_quickly misplaced declarations faults_in names_arguments free resolved text_within digits
a_frozen_array_is_not_written = refl

a_frozen_array_is_read_and_joined : shown (codes "cajita.freeze([1, 2]).concat([3]).join();") 20 ≡
    came (gave (text (codes "1,2,3"))) 15 (made 0 (made_name 0 0) ∷ touched 0 to_get (tools_name of_cajita) (codes "freeze" ∷ []) ∷
    got 0 (tools_name of_cajita) (built_name r.freeze) ∷ touched 0 to_call (built_name r.freeze) [] ∷ made 0 (made_name 0 1) ∷
    touched 0 to_get (made_name 0 0) (codes "concat" ∷ []) ∷ got 0 (made_name 0 0) (built_name r.concat) ∷ touched 0 to_call (built_name r.concat) [] ∷
    made 0 (made_name 0 2) ∷ touched 0 to_get (made_name 0 2) (codes "join" ∷ []) ∷ got 0 (made_name 0 2) (built_name r.join) ∷
    touched 0 to_call (built_name r.join) [] ∷ [])
unfolding quick_from longest body look_up settle resume step all_of run_quickly misplaced declarations faults_in names_arguments free resolved text_within digits array_index
a_frozen_array_is_read_and_joined = refl

an_array_in_itself : shown (codes "var a = []; a[0] = a; a[0] === a;") 20 ≡
    came (gave (truth true)) 15 (made 0 (made_name 0 0) ∷ touched 0 to_set (made_name 0 0) (codes "0" ∷ []) ∷
    touched 0 to_get (made_name 0 0) (codes "0" ∷ []) ∷ got 0 (made_name 0 0) (made_name 0 0) ∷ [])
unfolding quick_from longest body look_up settle resume step all_of run_quickly misplaced declarations faults_in names_arguments free resolved text_within digits array_index
an_array_in_itself = refl

a_frozen_array_is_not_popped : shown (codes "cajita.freeze([1]).pop();") 20 ≡
    came (threw (object (made_name 0 1))) 10 (made 0 (made_name 0 0) ∷ touched 0 to_get (tools_name of_cajita) (codes "freeze" ∷ []) ∷
    got 0 (tools_name of_cajita) (built_name r.freeze) ∷ touched 0 to_call (built_name r.freeze) [] ∷
    touched 0 to_get (made_name 0 0) (codes "pop" ∷ []) ∷ got 0 (made_name 0 0) (built_name r.pop) ∷ touched 0 to_call (built_name r.pop) [] ∷
    made 0 (made_name 0 1) ∷ [])
unfolding quick_from longest body look_up settle resume step all_of run_quickly misplaced declarations faults_in names_arguments free resolved text_within digits array_index
a_frozen_array_is_not_popped = refl

a_frozen_array_is_not_shifted : shown (codes "cajita.freeze([1]).shift();") 20 ≡
    came (threw (object (made_name 0 1))) 10 (made 0 (made_name 0 0) ∷ touched 0 to_get (tools_name of_cajita) (codes "freeze" ∷ []) ∷
    got 0 (tools_name of_cajita) (built_name r.freeze) ∷ touched 0 to_call (built_name r.freeze) [] ∷
    touched 0 to_get (made_name 0 0) (codes "shift" ∷ []) ∷ got 0 (made_name 0 0) (built_name r.shift) ∷ touched 0 to_call (built_name r.shift) [] ∷
    made 0 (made_name 0 1) ∷ [])
unfolding quick_from longest body look_up settle resume step all_of run_quickly misplaced declarations faults_in names_arguments free resolved text_within digits array_index
a_frozen_array_is_not_shifted = refl

a_frozen_array_is_not_unshifted : shown (codes "cajita.freeze([1]).unshift(0);") 20 ≡
    came (threw (object (made_name 0 1))) 11 (made 0 (made_name 0 0) ∷ touched 0 to_get (tools_name of_cajita) (codes "freeze" ∷ []) ∷
    got 0 (tools_name of_cajita) (built_name r.freeze) ∷ touched 0 to_call (built_name r.freeze) [] ∷
    touched 0 to_get (made_name 0 0) (codes "unshift" ∷ []) ∷ got 0 (made_name 0 0) (built_name r.unshift) ∷ touched 0 to_call (built_name r.unshift) [] ∷
    made 0 (made_name 0 1) ∷ [])
unfolding quick_from longest body look_up settle resume step all_of run_quickly misplaced declarations faults_in names_arguments free resolved text_within digits array_index
a_frozen_array_is_not_unshifted = refl

a_frozen_array_is_not_reversed : shown (codes "cajita.freeze([1]).reverse();") 20 ≡
    came (threw (object (made_name 0 1))) 10 (made 0 (made_name 0 0) ∷ touched 0 to_get (tools_name of_cajita) (codes "freeze" ∷ []) ∷
    got 0 (tools_name of_cajita) (built_name r.freeze) ∷ touched 0 to_call (built_name r.freeze) [] ∷
    touched 0 to_get (made_name 0 0) (codes "reverse" ∷ []) ∷ got 0 (made_name 0 0) (built_name r.turn) ∷ touched 0 to_call (built_name r.turn) [] ∷
    made 0 (made_name 0 1) ∷ [])
unfolding quick_from longest body look_up settle resume step all_of run_quickly misplaced declarations faults_in names_arguments free resolved text_within digits array_index
a_frozen_array_is_not_reversed = refl

join_wants_an_array : shown (codes "[].join.call('ab');") 10 ≡
    came (threw (object (made_name 0 1))) 8 (made 0 (made_name 0 0) ∷ touched 0 to_get (made_name 0 0) (codes "join" ∷ []) ∷
    got 0 (made_name 0 0) (built_name r.join) ∷ touched 0 to_get (built_name r.join) (codes "call" ∷ []) ∷ got 0 (built_name r.join) (built_name r.call) ∷
    touched 0 to_call (built_name r.call) [] ∷ touched 0 to_call (built_name r.join) [] ∷ made 0 (made_name 0 1) ∷ [])
unfolding quick_from longest body look_up settle resume step all_of run_quickly misplaced declarations faults_in names_arguments free resolved text_within digits array_index
join_wants_an_array = refl

slice_wants_an_array : shown (codes "[].slice.call({length: 1});") 10 ≡
    came (threw (object (made_name 0 2))) 9 (made 0 (made_name 0 0) ∷ touched 0 to_get (made_name 0 0) (codes "slice" ∷ []) ∷
    got 0 (made_name 0 0) (built_name r.slice) ∷ made 0 (made_name 0 1) ∷ touched 0 to_get (built_name r.slice) (codes "call" ∷ []) ∷
    got 0 (built_name r.slice) (built_name r.call) ∷ touched 0 to_call (built_name r.call) [] ∷ touched 0 to_call (built_name r.slice) [] ∷
    made 0 (made_name 0 2) ∷ [])
unfolding quick_from longest body look_up settle resume step all_of run_quickly misplaced declarations faults_in names_arguments free resolved text_within digits array_index
slice_wants_an_array = refl

concat_of_nothing_is_a_copy : shown (codes "var a = [{}]; var b = a.concat(); b === a || b[0] === a[0];") 30 ≡
    came (gave (truth true)) 22 (made 0 (made_name 0 0) ∷ made 0 (made_name 0 1) ∷ touched 0 to_get (made_name 0 1) (codes "concat" ∷ []) ∷
    got 0 (made_name 0 1) (built_name r.concat) ∷ touched 0 to_call (built_name r.concat) [] ∷ got 0 (made_name 0 1) (made_name 0 0) ∷
    made 0 (made_name 0 2) ∷ touched 0 to_get (made_name 0 2) (codes "0" ∷ []) ∷ got 0 (made_name 0 2) (made_name 0 0) ∷
    touched 0 to_get (made_name 0 1) (codes "0" ∷ []) ∷ got 0 (made_name 0 1) (made_name 0 0) ∷ [])
unfolding quick_from longest body look_up settle resume step all_of run_quickly misplaced declarations faults_in names_arguments free resolved text_within digits array_index
concat_of_nothing_is_a_copy = refl

places_that_are_texts : shown (codes "[1, 2, 3].slice('1', null).length + [1, 2, 3].slice('1').join();") 30 ≡
    came (gave (text (codes "02,3"))) 21 (made 0 (made_name 0 0) ∷ touched 0 to_get (made_name 0 0) (codes "slice" ∷ []) ∷
    got 0 (made_name 0 0) (built_name r.slice) ∷ touched 0 to_call (built_name r.slice) [] ∷ made 0 (made_name 0 1) ∷
    touched 0 to_get (made_name 0 1) (codes "length" ∷ []) ∷ made 0 (made_name 0 2) ∷ touched 0 to_get (made_name 0 2) (codes "slice" ∷ []) ∷
    got 0 (made_name 0 2) (built_name r.slice) ∷ touched 0 to_call (built_name r.slice) [] ∷ made 0 (made_name 0 3) ∷
    touched 0 to_get (made_name 0 3) (codes "join" ∷ []) ∷ got 0 (made_name 0 3) (built_name r.join) ∷ touched 0 to_call (built_name r.join) [] ∷ [])
unfolding quick_from longest body look_up settle resume step all_of run_quickly misplaced declarations faults_in names_arguments free resolved text_within digits array_index
places_that_are_texts = refl

reverse_of_an_empty_array : shown (codes "[].reverse().length;") 10 ≡
    came (gave (number (pos 0))) 6 (made 0 (made_name 0 0) ∷ touched 0 to_get (made_name 0 0) (codes "reverse" ∷ []) ∷
    got 0 (made_name 0 0) (built_name r.turn) ∷ touched 0 to_call (built_name r.turn) [] ∷ touched 0 to_get (made_name 0 0) (codes "length" ∷ []) ∷ [])
unfolding quick_from longest body look_up settle resume step all_of run_quickly misplaced declarations faults_in names_arguments free resolved text_within digits array_index
reverse_of_an_empty_array = refl

an_object_is_popped_and_got : shown (codes "var a = [{}, []]; a.pop(); a.shift(); a.length;") 20 ≡
    came (gave (number (pos 0))) 17 (made 0 (made_name 0 0) ∷ made 0 (made_name 0 1) ∷ made 0 (made_name 0 2) ∷
    touched 0 to_get (made_name 0 2) (codes "pop" ∷ []) ∷ got 0 (made_name 0 2) (built_name r.pop) ∷ touched 0 to_call (built_name r.pop) [] ∷
    got 0 (made_name 0 2) (made_name 0 1) ∷ touched 0 to_get (made_name 0 2) (codes "shift" ∷ []) ∷ got 0 (made_name 0 2) (built_name r.shift) ∷
    touched 0 to_call (built_name r.shift) [] ∷ got 0 (made_name 0 2) (made_name 0 0) ∷ touched 0 to_get (made_name 0 2) (codes "length" ∷ []) ∷ [])
unfolding quick_from longest body look_up settle resume step all_of run_quickly misplaced declarations faults_in names_arguments free resolved text_within digits array_index
an_object_is_popped_and_got = refl

arrays_of_arrays_are_not_flattened_twice : shown (codes "[1].concat([[2, 3]]).length;") 20 ≡
    came (gave (number (pos 2))) 11 (made 0 (made_name 0 0) ∷ made 0 (made_name 0 1) ∷ made 0 (made_name 0 2) ∷
    touched 0 to_get (made_name 0 0) (codes "concat" ∷ []) ∷ got 0 (made_name 0 0) (built_name r.concat) ∷ touched 0 to_call (built_name r.concat) [] ∷
    got 0 (made_name 0 2) (made_name 0 1) ∷ made 0 (made_name 0 3) ∷ touched 0 to_get (made_name 0 3) (codes "length" ∷ []) ∷ [])
unfolding quick_from longest body look_up settle resume step all_of run_quickly misplaced declarations faults_in names_arguments free resolved text_within digits array_index
arrays_of_arrays_are_not_flattened_twice = refl

an_array_is_shifted_along : shown (codes "var o = {}, a = []; a.unshift(o, 1); a.push(a.shift()); a[1] === o;") 30 ≡
    came (gave (truth true)) 25 (made 0 (made_name 0 0) ∷ made 0 (made_name 0 1) ∷ touched 0 to_get (made_name 0 1) (codes "unshift" ∷ []) ∷
    got 0 (made_name 0 1) (built_name r.unshift) ∷ touched 0 to_call (built_name r.unshift) [] ∷ touched 0 to_get (made_name 0 1) (codes "shift" ∷ []) ∷
    got 0 (made_name 0 1) (built_name r.shift) ∷ touched 0 to_call (built_name r.shift) [] ∷ got 0 (made_name 0 1) (made_name 0 0) ∷
    touched 0 to_get (made_name 0 1) (codes "push" ∷ []) ∷ got 0 (made_name 0 1) (built_name r.push) ∷ touched 0 to_call (built_name r.push) [] ∷
    touched 0 to_get (made_name 0 1) (codes "1" ∷ []) ∷ got 0 (made_name 0 1) (made_name 0 0) ∷ [])
unfolding quick_from longest body look_up settle resume step all_of run_quickly misplaced declarations faults_in names_arguments free resolved text_within digits array_index
an_array_is_shifted_along = refl
