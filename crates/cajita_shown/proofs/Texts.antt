-- The methods of texts, and what the text of each value is.
use Rattle.std.proofs.Common.{◌≡◌, [], ◌∷◌, refl}
use Rattle.std.specs.Prelude.{codes, pos}
use Rattle.std.specs.Fmt.{digits}
use Rattle.caja_units.specs.Index.{array_index}
use Rattle.es3_tokens.specs.Longest.{longest}
use Rattle.es3_tokens.specs.Texts.{body}
use Rattle.es3_tokens.specs.Quick.{quick_from}
use Rattle.es3_grammar.specs.Spots.{look_up}
use Rattle.es3_grammar.specs.Machine.{settle, resume, step, all_of}
use Rattle.es3_grammar.specs.Sums.{run_quickly}
use Rattle.es3_labels.specs.Misplaced.{misplaced}
use Rattle.cajita_names.specs.Declarations.{declarations}
use Rattle.cajita_rules.specs.Faults.{faults_in}
use Rattle.cajita_forms.specs.Arguments.{names_arguments}
use Rattle.scope_rules.specs.Free.{free}
use Rattle.scope_rules.specs.Resolve.{resolved}
use Rattle.rows.specs.Rows as r
use Rattle.rows.specs.Rows.{to_get, to_call}
use Rattle.cajita_meaning.specs.World.{made_name, built_name, number, text, object}
use Rattle.cajita_meaning.specs.Doing.{text_within}
use Rattle.cajita_meaning.specs.Direct.{gave, threw, made, got, touched}
use Rattle.cajita_shown.specs.Shown.{came, shown}

characters : shown (codes "['abc'.charAt(1), 'abc'.charAt(), 'abc'.charAt(3), 'abc'.charAt(-1), 'a'.charCodeAt(0)].join('|');") 30 ≡
    came (gave (text (codes "b|a|||97"))) 26 (touched 0 to_call (built_name r.char_at) [] ∷ touched 0 to_call (built_name r.char_at) [] ∷
    touched 0 to_call (built_name r.char_at) [] ∷ touched 0 to_call (built_name r.char_at) [] ∷ touched 0 to_call (built_name r.char_code_at) [] ∷
    made 0 (made_name 0 0) ∷ touched 0 to_get (made_name 0 0) (codes "join" ∷ []) ∷ got 0 (made_name 0 0) (built_name r.join) ∷
    touched 0 to_call (built_name r.join) [] ∷ [])
unfolding quick_from longest body look_up settle resume step all_of run_quickly misplaced declarations faults_in names_arguments free resolved text_within digits array_index
characters = refl

places : shown (codes "var s = 'abab'; [s.indexOf('b'), s.indexOf('b', 2), s.indexOf('x'), s.indexOf('a', -5), s.indexOf('', 9), s.lastIndexOf('ab'), s.lastIndexOf('x')].join();") 50 ≡
    came (gave (text (codes "1,3,-1,0,4,2,-1"))) 40 (touched 0 to_call (built_name r.index_of) [] ∷ touched 0 to_call (built_name r.index_of) [] ∷
    touched 0 to_call (built_name r.index_of) [] ∷ touched 0 to_call (built_name r.index_of) [] ∷ touched 0 to_call (built_name r.index_of) [] ∷
    touched 0 to_call (built_name r.last_index_of) [] ∷ touched 0 to_call (built_name r.last_index_of) [] ∷ made 0 (made_name 0 0) ∷
    touched 0 to_get (made_name 0 0) (codes "join" ∷ []) ∷ got 0 (made_name 0 0) (built_name r.join) ∷ touched 0 to_call (built_name r.join) [] ∷ [])
unfolding quick_from longest body look_up settle resume step all_of run_quickly misplaced declarations faults_in names_arguments free resolved text_within digits array_index
places = refl

pieces_by_place : shown (codes "var s = 'abcd'; [s.slice(1), s.slice(-2), s.slice(1, -1), s.slice(3, 1), s.substring(3, 1), s.substring(-5, 2), s.substring(2)].join('|');") 50 ≡
    came (gave (text (codes "bcd|cd|bc||bc|ab|cd"))) 44 (touched 0 to_call (built_name r.slice_text) [] ∷ touched 0 to_call (built_name r.slice_text) [] ∷
    touched 0 to_call (built_name r.slice_text) [] ∷ touched 0 to_call (built_name r.slice_text) [] ∷ touched 0 to_call (built_name r.substring) [] ∷
    touched 0 to_call (built_name r.substring) [] ∷ touched 0 to_call (built_name r.substring) [] ∷ made 0 (made_name 0 0) ∷
    touched 0 to_get (made_name 0 0) (codes "join" ∷ []) ∷ got 0 (made_name 0 0) (built_name r.join) ∷ touched 0 to_call (built_name r.join) [] ∷ [])
unfolding quick_from longest body look_up settle resume step all_of run_quickly misplaced declarations faults_in names_arguments free resolved text_within digits array_index
pieces_by_place = refl

splits : shown (codes "['a,b,,c'.split(',').length, 'abc'.split('').join('-'), 'abc'.split().length, ''.split(',').length, 'aaa'.split('aa').join('|')].join(';');") 40 ≡
    came (gave (text (codes "4;a-b-c;1;1;|a"))) 34 (touched 0 to_call (built_name r.split) [] ∷ made 0 (made_name 0 0) ∷
    touched 0 to_get (made_name 0 0) (codes "length" ∷ []) ∷ touched 0 to_call (built_name r.split) [] ∷ made 0 (made_name 0 1) ∷
    touched 0 to_get (made_name 0 1) (codes "join" ∷ []) ∷ got 0 (made_name 0 1) (built_name r.join) ∷ touched 0 to_call (built_name r.join) [] ∷
    touched 0 to_call (built_name r.split) [] ∷ made 0 (made_name 0 2) ∷ touched 0 to_get (made_name 0 2) (codes "length" ∷ []) ∷
    touched 0 to_call (built_name r.split) [] ∷ made 0 (made_name 0 3) ∷ touched 0 to_get (made_name 0 3) (codes "length" ∷ []) ∷
    touched 0 to_call (built_name r.split) [] ∷ made 0 (made_name 0 4) ∷ touched 0 to_get (made_name 0 4) (codes "join" ∷ []) ∷
    got 0 (made_name 0 4) (built_name r.join) ∷ touched 0 to_call (built_name r.join) [] ∷ made 0 (made_name 0 5) ∷
    touched 0 to_get (made_name 0 5) (codes "join" ∷ []) ∷ got 0 (made_name 0 5) (built_name r.join) ∷ touched 0 to_call (built_name r.join) [] ∷ [])
unfolding quick_from longest body look_up settle resume step all_of run_quickly misplaced declarations faults_in names_arguments free resolved text_within digits array_index
splits = refl

concat_of_texts : shown (codes "'a'.concat(1, null, [2, 3], 'x') + ''.concat();") 20 ≡
    came (gave (text (codes "a1null2,3x"))) 15 (made 0 (made_name 0 0) ∷ touched 0 to_call (built_name r.concat_text) [] ∷
    touched 0 to_call (built_name r.concat_text) [] ∷ [])
unfolding quick_from longest body look_up settle resume step all_of run_quickly misplaced declarations faults_in names_arguments free resolved text_within digits
concat_of_texts = refl

a_method_of_texts_wants_a_text : shown (codes "'a'.charAt.call(5, 0);") 10 ≡
    came (threw (object (made_name 0 0))) 9 (touched 0 to_get (built_name r.char_at) (codes "call" ∷ []) ∷
    got 0 (built_name r.char_at) (built_name r.call) ∷ touched 0 to_call (built_name r.call) [] ∷ touched 0 to_call (built_name r.char_at) [] ∷
    made 0 (made_name 0 0) ∷ [])
unfolding quick_from longest body look_up settle resume step all_of run_quickly misplaced declarations faults_in names_arguments free resolved text_within
a_method_of_texts_wants_a_text = refl

a_place_that_is_a_text : shown (codes "'abc'.charAt('1') + 'undefined'.indexOf();") 20 ≡
    came (gave (text (codes "b0"))) 10 (touched 0 to_call (built_name r.char_at) [] ∷ touched 0 to_call (built_name r.index_of) [] ∷ [])
unfolding quick_from longest body look_up settle resume step all_of run_quickly misplaced declarations faults_in names_arguments free resolved text_within digits
a_place_that_is_a_text = refl

texts_of_each_kind : shown (codes "String(undefined) + String(null) + String(true) + String(-5) + String({}) + String(Error('x')) + String(String) + String([1, [2]]) + String();") 60 ≡
    came (gave (text (codes "undefinednulltrue-5[object Object][object Object][object Function]1,2"))) 55 (touched 0 to_call (built_name r.text_from) [] ∷
    touched 0 to_call (built_name r.text_from) [] ∷ touched 0 to_call (built_name r.text_from) [] ∷ touched 0 to_call (built_name r.text_from) [] ∷
    made 0 (made_name 0 0) ∷ touched 0 to_call (built_name r.text_from) [] ∷ touched 0 to_call (built_name (r.makes r.error)) [] ∷
    made 0 (made_name 0 1) ∷ touched 0 to_call (built_name r.text_from) [] ∷ touched 0 to_call (built_name r.text_from) [] ∷ made 0 (made_name 0 2) ∷
    made 0 (made_name 0 3) ∷ touched 0 to_call (built_name r.text_from) [] ∷ touched 0 to_call (built_name r.text_from) [] ∷ [])
unfolding quick_from longest body look_up settle resume step all_of run_quickly misplaced declarations faults_in names_arguments free resolved text_within digits
texts_of_each_kind = refl

indexOf_wants_a_text : shown (codes "''.indexOf.call({}, 0);") 10 ≡
    came (threw (object (made_name 0 1))) 9 (made 0 (made_name 0 0) ∷ touched 0 to_get (built_name r.index_of) (codes "call" ∷ []) ∷
    got 0 (built_name r.index_of) (built_name r.call) ∷ touched 0 to_call (built_name r.call) [] ∷ touched 0 to_call (built_name r.index_of) [] ∷
    made 0 (made_name 0 1) ∷ [])
unfolding quick_from longest body look_up settle resume step all_of run_quickly misplaced declarations faults_in names_arguments free resolved text_within
indexOf_wants_a_text = refl

splits_by_a_number : shown (codes "'1020'.split(0).join('|');") 10 ≡
    came (gave (text (codes "1|2|"))) 9 (touched 0 to_call (built_name r.split) [] ∷ made 0 (made_name 0 0) ∷
    touched 0 to_get (made_name 0 0) (codes "join" ∷ []) ∷ got 0 (made_name 0 0) (built_name r.join) ∷ touched 0 to_call (built_name r.join) [] ∷ [])
unfolding quick_from longest body look_up settle resume step all_of run_quickly misplaced declarations faults_in names_arguments free resolved text_within digits array_index
splits_by_a_number = refl

substrings_exchange_their_ends : shown (codes "var s = 'abc'; [s.substring(2, 0), s.substring(0, 9), s.substring(), s.slice(), s.slice(-9), s.slice(0, -9)].join('|');") 40 ≡
    came (gave (text (codes "ab|abc|abc|abc|abc|"))) 36 (touched 0 to_call (built_name r.substring) [] ∷ touched 0 to_call (built_name r.substring) [] ∷
    touched 0 to_call (built_name r.substring) [] ∷ touched 0 to_call (built_name r.slice_text) [] ∷ touched 0 to_call (built_name r.slice_text) [] ∷
    touched 0 to_call (built_name r.slice_text) [] ∷ made 0 (made_name 0 0) ∷ touched 0 to_get (made_name 0 0) (codes "join" ∷ []) ∷
    got 0 (made_name 0 0) (built_name r.join) ∷ touched 0 to_call (built_name r.join) [] ∷ [])
unfolding quick_from longest body look_up settle resume step all_of run_quickly misplaced declarations faults_in names_arguments free resolved text_within digits array_index
substrings_exchange_their_ends = refl

the_code_of_the_first_unit : shown (codes "'z'.charCodeAt();") 10 ≡
    came (gave (number (pos 122))) 5 (touched 0 to_call (built_name r.char_code_at) [] ∷ [])
unfolding quick_from longest body look_up settle resume step all_of run_quickly misplaced declarations faults_in names_arguments free resolved text_within
the_code_of_the_first_unit = refl

concat_by_call : shown (codes "''.concat.call('a', 'b', {});") 20 ≡
    came (gave (text (codes "ab[object Object]"))) 10 (made 0 (made_name 0 0) ∷ touched 0 to_get (built_name r.concat_text) (codes "call" ∷ []) ∷
    got 0 (built_name r.concat_text) (built_name r.call) ∷ touched 0 to_call (built_name r.call) [] ∷
    touched 0 to_call (built_name r.concat_text) [] ∷ [])
unfolding quick_from longest body look_up settle resume step all_of run_quickly misplaced declarations faults_in names_arguments free resolved text_within
concat_by_call = refl

last_places : shown (codes "['aXbX'.lastIndexOf('X'), 'ab'.lastIndexOf(''), 'ab'.lastIndexOf()].join();") 20 ≡
    came (gave (text (codes "3,2,-1"))) 16 (touched 0 to_call (built_name r.last_index_of) [] ∷ touched 0 to_call (built_name r.last_index_of) [] ∷
    touched 0 to_call (built_name r.last_index_of) [] ∷ made 0 (made_name 0 0) ∷ touched 0 to_get (made_name 0 0) (codes "join" ∷ []) ∷
    got 0 (made_name 0 0) (built_name r.join) ∷ touched 0 to_call (built_name r.join) [] ∷ [])
unfolding quick_from longest body look_up settle resume step all_of run_quickly misplaced declarations faults_in names_arguments free resolved text_within digits array_index
last_places = refl
