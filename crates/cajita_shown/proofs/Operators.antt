-- Each operator.
use Rattle.std.proofs.Common.{◌≡◌, [], ◌∷◌, refl}
use Rattle.std.specs.Prelude.{codes, pos, true}
use Rattle.std.specs.Fmt.{digits}
use Rattle.caja_units.specs.Index.{array_index}
use Rattle.es3_tokens.specs.Longest.{longest}
use Rattle.es3_tokens.specs.Texts.{body}
use Rattle.es3_tokens.specs.Cut.{point}
use Rattle.es3_tokens.specs.Quick.{quick_from}
use Rattle.es3_grammar.specs.Spots.{look_up}
use Rattle.es3_grammar.specs.Machine.{settle, resume, step, all_of}
use Rattle.es3_grammar.specs.Sums.{run_quickly}
use Rattle.es3_labels.specs.Misplaced.{misplaced}
use Rattle.cajita_names.specs.Declarations.{declarations}
use Rattle.cajita_rules.specs.Faults.{faults_in}
use Rattle.cajita_forms.specs.Arguments.{names_arguments}
use Rattle.scope_rules.specs.Free.{free}
use Rattle.scope_rules.specs.Resolve.{resolved}
use Rattle.rows.specs.Rows as r
use Rattle.rows.specs.Rows.{to_get, to_delete, to_has, to_call}
use Rattle.rows.specs.Names.{of_cajita}
use Rattle.cajita_meaning.specs.World.{made_name, built_name, tools_name, truth, number, text, object}
use Rattle.cajita_meaning.specs.Doing.{text_within}
use Rattle.cajita_meaning.specs.Direct.{gave, threw, made, got, touched}
use Rattle.cajita_shown.specs.Shown.{came, shown}

arithmetic : shown (codes "[7 + 2, 7 - 9, 7 * -2, 6 / 3, -7 % 2, 7 % -2].join();") 30 ≡
    came (gave (text (codes "9,-2,-14,2,-1,1"))) 26 (made 0 (made_name 0 0) ∷ touched 0 to_get (made_name 0 0) (codes "join" ∷ []) ∷
    got 0 (made_name 0 0) (built_name r.join) ∷ touched 0 to_call (built_name r.join) [] ∷ [])
unfolding quick_from longest body look_up settle resume step all_of run_quickly misplaced declarations faults_in names_arguments free resolved text_within digits array_index
arithmetic = refl

sums_of_texts : shown (codes "['a' + 1, 1 + 'a', null + 'x', [1, 2] + 3, {} + '', true + 1, null + 1].join('|');") 30 ≡
    came (gave (text (codes "a1|1a|nullx|1,23|[object Object]|2|1"))) 29 (made 0 (made_name 0 0) ∷ made 0 (made_name 0 1) ∷ made 0 (made_name 0 2) ∷
    touched 0 to_get (made_name 0 2) (codes "join" ∷ []) ∷ got 0 (made_name 0 2) (built_name r.join) ∷ touched 0 to_call (built_name r.join) [] ∷ [])
unfolding quick_from longest body look_up settle resume step all_of run_quickly misplaced declarations faults_in names_arguments free resolved text_within digits array_index
sums_of_texts = refl

shifts : shown (codes "[1 << 31, 1 << 33, -8 >> 1, -1 >>> 0, -1 >>> 28].join();") 30 ≡
    came (gave (text (codes "-2147483648,2,-4,4294967295,15"))) 23 (made 0 (made_name 0 0) ∷ touched 0 to_get (made_name 0 0) (codes "join" ∷ []) ∷
    got 0 (made_name 0 0) (built_name r.join) ∷ touched 0 to_call (built_name r.join) [] ∷ [])
unfolding quick_from longest body point look_up settle resume step all_of run_quickly misplaced declarations faults_in names_arguments free resolved text_within digits array_index
shifts = refl

bits : shown (codes "[12 & 10, 12 | 3, 12 ^ 10, ~7, 4294967295 | 0].join();") 20 ≡
    came (gave (text (codes "8,15,6,-8,-1"))) 19 (made 0 (made_name 0 0) ∷ touched 0 to_get (made_name 0 0) (codes "join" ∷ []) ∷
    got 0 (made_name 0 0) (built_name r.join) ∷ touched 0 to_call (built_name r.join) [] ∷ [])
unfolding quick_from longest body point look_up settle resume step all_of run_quickly misplaced declarations faults_in names_arguments free resolved text_within digits array_index
bits = refl

comparisons : shown (codes "[1 < 2, 2 <= 1, '10' < '9', '10' < 9, 2 > 1, 2 >= 3, null < 1].join();") 30 ≡
    came (gave (text (codes "true,false,true,false,true,false,true"))) 26 (made 0 (made_name 0 0) ∷ touched 0 to_get (made_name 0 0) (codes "join" ∷ []) ∷
    got 0 (made_name 0 0) (built_name r.join) ∷ touched 0 to_call (built_name r.join) [] ∷ [])
unfolding quick_from longest body look_up settle resume step all_of run_quickly misplaced declarations faults_in names_arguments free resolved text_within digits array_index
comparisons = refl

equality : shown (codes "[1 == '1', null == undefined, undefined == 0, true == '1', [1] == 1, 'a' != 'a', [] == []].join();") 30 ≡
    came (gave (text (codes "true,true,false,true,true,false,false"))) 28 (made 0 (made_name 0 0) ∷ made 0 (made_name 0 1) ∷ made 0 (made_name 0 2) ∷
    made 0 (made_name 0 3) ∷ touched 0 to_get (made_name 0 3) (codes "join" ∷ []) ∷ got 0 (made_name 0 3) (built_name r.join) ∷
    touched 0 to_call (built_name r.join) [] ∷ [])
unfolding quick_from longest body look_up settle resume step all_of run_quickly misplaced declarations faults_in names_arguments free resolved text_within digits array_index
equality = refl

sameness : shown (codes "var o = {}; [1 === 1, '1' === 1, o === o, {} === {}, null !== undefined, 'ab' === 'ab'].join();") 30 ≡
    came (gave (text (codes "true,false,true,false,true,true"))) 27 (made 0 (made_name 0 0) ∷ made 0 (made_name 0 1) ∷ made 0 (made_name 0 2) ∷
    made 0 (made_name 0 3) ∷ touched 0 to_get (made_name 0 3) (codes "join" ∷ []) ∷ got 0 (made_name 0 3) (built_name r.join) ∷
    touched 0 to_call (built_name r.join) [] ∷ [])
unfolding quick_from longest body look_up settle resume step all_of run_quickly misplaced declarations faults_in names_arguments free resolved text_within digits array_index
sameness = refl

has : shown (codes "var o = {x: 1}; ['x' in o, 'y' in o, 0 in [5], 1 in [5], 'length' in [], 'call' in cajita.keys].join();") 40 ≡
    came (gave (text (codes "true,false,true,false,true,false"))) 31 (made 0 (made_name 0 0) ∷ touched 0 to_has (made_name 0 0) (codes "x" ∷ []) ∷
    touched 0 to_has (made_name 0 0) (codes "y" ∷ []) ∷ made 0 (made_name 0 1) ∷ touched 0 to_has (made_name 0 1) (codes "0" ∷ []) ∷
    made 0 (made_name 0 2) ∷ touched 0 to_has (made_name 0 2) (codes "1" ∷ []) ∷ made 0 (made_name 0 3) ∷
    touched 0 to_has (made_name 0 3) (codes "length" ∷ []) ∷ touched 0 to_get (tools_name of_cajita) (codes "keys" ∷ []) ∷
    got 0 (tools_name of_cajita) (built_name r.keys) ∷ touched 0 to_has (built_name r.keys) (codes "call" ∷ []) ∷ made 0 (made_name 0 4) ∷
    touched 0 to_get (made_name 0 4) (codes "join" ∷ []) ∷ got 0 (made_name 0 4) (built_name r.join) ∷ touched 0 to_call (built_name r.join) [] ∷ [])
unfolding quick_from longest body look_up settle resume step all_of run_quickly misplaced declarations faults_in names_arguments free resolved text_within digits array_index
has = refl

has_in_a_text_is_refused : shown (codes "'length' in 'ab';") 10 ≡
    came (threw (object (made_name 0 0))) 5 (made 0 (made_name 0 0) ∷ [])
unfolding quick_from longest body look_up settle resume step all_of run_quickly misplaced declarations faults_in names_arguments free resolved text_within
has_in_a_text_is_refused = refl

instance_of_no_function : shown (codes "1 instanceof {};") 10 ≡
    came (threw (object (made_name 0 1))) 5 (made 0 (made_name 0 0) ∷ made 0 (made_name 0 1) ∷ [])
unfolding quick_from longest body look_up settle resume step all_of run_quickly misplaced declarations faults_in names_arguments free resolved
instance_of_no_function = refl

signs : shown (codes "[+'12', -3, - -3, +true, +null, +'', +' 0x1F '].join();") 30 ≡
    came (gave (text (codes "12,-3,3,1,0,0,31"))) 20 (made 0 (made_name 0 0) ∷ touched 0 to_get (made_name 0 0) (codes "join" ∷ []) ∷
    got 0 (made_name 0 0) (built_name r.join) ∷ touched 0 to_call (built_name r.join) [] ∷ [])
unfolding quick_from longest body look_up settle resume step all_of run_quickly misplaced declarations faults_in names_arguments free resolved text_within digits array_index
signs = refl

not_and_void : shown (codes "[!0, !'', !'a', ![], void 5].join();") 20 ≡
    came (gave (text (codes "true,true,false,false,"))) 15 (made 0 (made_name 0 0) ∷ made 0 (made_name 0 1) ∷
    touched 0 to_get (made_name 0 1) (codes "join" ∷ []) ∷ got 0 (made_name 0 1) (built_name r.join) ∷ touched 0 to_call (built_name r.join) [] ∷ [])
unfolding quick_from longest body look_up settle resume step all_of run_quickly misplaced declarations faults_in names_arguments free resolved text_within digits array_index
not_and_void = refl

types : shown (codes "[typeof undefined, typeof null, typeof true, typeof 1, typeof '', typeof {}, typeof [], typeof Error, typeof cajita, typeof Error('')].join();") 40 ≡
    came (gave (text (codes "undefined,object,boolean,number,string,object,object,function,object,object"))) 31 (made 0 (made_name 0 0) ∷
    made 0 (made_name 0 1) ∷ touched 0 to_call (built_name (r.makes r.error)) [] ∷ made 0 (made_name 0 2) ∷ made 0 (made_name 0 3) ∷
    touched 0 to_get (made_name 0 3) (codes "join" ∷ []) ∷ got 0 (made_name 0 3) (built_name r.join) ∷ touched 0 to_call (built_name r.join) [] ∷ [])
unfolding quick_from longest body look_up settle resume step all_of run_quickly misplaced declarations faults_in names_arguments free resolved text_within digits array_index
types = refl

and_or : shown (codes "[0 && x(), 1 && 2, '' || 'b', 'a' || x()].join(); function x() { return 9; }") 20 ≡
    came (gave (text (codes "0,2,b,a"))) 16 (made 0 (made_name 0 0) ∷ made 0 (made_name 0 1) ∷ touched 0 to_get (made_name 0 1) (codes "join" ∷ []) ∷
    got 0 (made_name 0 1) (built_name r.join) ∷ touched 0 to_call (built_name r.join) [] ∷ [])
unfolding quick_from longest body look_up settle resume step all_of run_quickly misplaced declarations faults_in names_arguments free resolved text_within digits array_index
and_or = refl

a_choice : shown (codes "[true ? 1 : x(), '' ? x() : 2].join(); function x() { return 9; }") 20 ≡
    came (gave (text (codes "1,2"))) 12 (made 0 (made_name 0 0) ∷ made 0 (made_name 0 1) ∷ touched 0 to_get (made_name 0 1) (codes "join" ∷ []) ∷
    got 0 (made_name 0 1) (built_name r.join) ∷ touched 0 to_call (built_name r.join) [] ∷ [])
unfolding quick_from longest body look_up settle resume step all_of run_quickly misplaced declarations faults_in names_arguments free resolved text_within digits array_index
a_choice = refl

a_comma : shown (codes "var x; (x = 1, x += 1, x);") 20 ≡
    came (gave (number (pos 2))) 11 []
unfolding quick_from longest body look_up settle resume step all_of run_quickly misplaced declarations faults_in names_arguments free resolved
a_comma = refl

minus_zero_is_zero : shown (codes "[-0, 0 * -5, 0 / -3, -4 % 2].join();") 20 ≡
    came (gave (text (codes "0,0,0,0"))) 19 (made 0 (made_name 0 0) ∷ touched 0 to_get (made_name 0 0) (codes "join" ∷ []) ∷
    got 0 (made_name 0 0) (built_name r.join) ∷ touched 0 to_call (built_name r.join) [] ∷ [])
unfolding quick_from longest body look_up settle resume step all_of run_quickly misplaced declarations faults_in names_arguments free resolved text_within digits array_index
minus_zero_is_zero = refl

division_of_whole_numbers : shown (codes "[6 / 3, '' * 1, '0x10' * 1, ' -7 ' - 0, '+5' - 0].join();") 30 ≡
    came (gave (text (codes "2,0,16,-7,5"))) 20 (made 0 (made_name 0 0) ∷ touched 0 to_get (made_name 0 0) (codes "join" ∷ []) ∷
    got 0 (made_name 0 0) (built_name r.join) ∷ touched 0 to_call (built_name r.join) [] ∷ [])
unfolding quick_from longest body look_up settle resume step all_of run_quickly misplaced declarations faults_in names_arguments free resolved text_within digits array_index
division_of_whole_numbers = refl

evaluation_from_left_to_right : shown (codes "var t = ''; function f(x) { t += x; return 1; } f('a') + f('b') * f('c') - (f('d') < f('e')); t;") 60 ≡
    came (gave (text (codes "abcde"))) 57 (made 0 (made_name 0 0) ∷ touched 0 to_call (made_name 0 0) [] ∷ touched 0 to_call (made_name 0 0) [] ∷
    touched 0 to_call (made_name 0 0) [] ∷ touched 0 to_call (made_name 0 0) [] ∷ touched 0 to_call (made_name 0 0) [] ∷ [])
unfolding quick_from longest body look_up settle resume step all_of run_quickly misplaced declarations faults_in names_arguments free resolved text_within
evaluation_from_left_to_right = refl

has_converts_its_key_first : shown (codes "[1] in {'1': 2};") 10 ≡
    came (gave (truth true)) 7 (made 0 (made_name 0 0) ∷ made 0 (made_name 0 1) ∷ touched 0 to_has (made_name 0 1) (codes "1" ∷ []) ∷ [])
unfolding quick_from longest body look_up settle resume step all_of run_quickly misplaced declarations faults_in names_arguments free resolved text_within digits
has_converts_its_key_first = refl

instance_of_a_built_in_that_makes_nothing : shown (codes "[Error('') instanceof say, 5 instanceof Error].join();") 20 ≡
    came (gave (text (codes "false,false"))) 16 (touched 0 to_call (built_name (r.makes r.error)) [] ∷ made 0 (made_name 0 0) ∷ made 0 (made_name 0 1) ∷
    touched 0 to_get (made_name 0 1) (codes "join" ∷ []) ∷ got 0 (made_name 0 1) (built_name r.join) ∷ touched 0 to_call (built_name r.join) [] ∷ [])
unfolding quick_from longest body look_up settle resume step all_of run_quickly misplaced declarations faults_in names_arguments free resolved text_within digits array_index
instance_of_a_built_in_that_makes_nothing = refl

texts_are_compared_by_their_units : shown (codes "['a' < 'B', '' < 'a', 'ab' < 'abc', 'b' > 'abc', 'a' <= 'a'].join();") 30 ≡
    came (gave (text (codes "false,true,true,true,true"))) 20 (made 0 (made_name 0 0) ∷ touched 0 to_get (made_name 0 0) (codes "join" ∷ []) ∷
    got 0 (made_name 0 0) (built_name r.join) ∷ touched 0 to_call (built_name r.join) [] ∷ [])
unfolding quick_from longest body look_up settle resume step all_of run_quickly misplaced declarations faults_in names_arguments free resolved text_within digits array_index
texts_are_compared_by_their_units = refl

objects_are_compared_by_their_texts : shown (codes "[[2] > 1, {} < 'a', [] == '', [1, 2] == '1,2', {} == '[object Object]', [10] < [9]].join();") 30 ≡
    came (gave (text (codes "true,true,true,true,true,true"))) 28 (made 0 (made_name 0 0) ∷ made 0 (made_name 0 1) ∷ made 0 (made_name 0 2) ∷
    made 0 (made_name 0 3) ∷ made 0 (made_name 0 4) ∷ made 0 (made_name 0 5) ∷ made 0 (made_name 0 6) ∷ made 0 (made_name 0 7) ∷
    touched 0 to_get (made_name 0 7) (codes "join" ∷ []) ∷ got 0 (made_name 0 7) (built_name r.join) ∷ touched 0 to_call (built_name r.join) [] ∷ [])
unfolding quick_from longest body point look_up settle resume step all_of run_quickly misplaced declarations faults_in names_arguments free resolved text_within digits array_index
objects_are_compared_by_their_texts = refl

negative_remainders_and_shifts : shown (codes "[-5 % 3, 5 % -3, -1 >> 31, 5 << -31, 1 << 32, 2147483648 >> 0, 2147483648 >>> 0].join();") 40 ≡
    came (gave (text (codes "-2,2,-1,10,1,-2147483648,2147483648"))) 30 (made 0 (made_name 0 0) ∷ touched 0 to_get (made_name 0 0) (codes "join" ∷ []) ∷
    got 0 (made_name 0 0) (built_name r.join) ∷ touched 0 to_call (built_name r.join) [] ∷ [])
unfolding quick_from longest body point look_up settle resume step all_of run_quickly misplaced declarations faults_in names_arguments free resolved text_within digits array_index
negative_remainders_and_shifts = refl

a_delete_of_a_computed_key : shown (codes "var o = {a1: 1}; delete o['a' + 1] && !('a1' in o);") 20 ≡
    came (gave (truth true)) 16 (made 0 (made_name 0 0) ∷ touched 0 to_delete (made_name 0 0) (codes "a1" ∷ []) ∷
    touched 0 to_has (made_name 0 0) (codes "a1" ∷ []) ∷ [])
unfolding quick_from longest body look_up settle resume step all_of run_quickly misplaced declarations faults_in names_arguments free resolved text_within digits
a_delete_of_a_computed_key = refl

sums_that_are_just_in_range : shown (codes "[9007199254740990 + 1, -9007199254740990 - 1, 94906265 * 94906265].join();") 20 ≡
    came (gave (text (codes "9007199254740991,-9007199254740991,9007199136250225"))) 15 (made 0 (made_name 0 0) ∷
    touched 0 to_get (made_name 0 0) (codes "join" ∷ []) ∷ got 0 (made_name 0 0) (built_name r.join) ∷ touched 0 to_call (built_name r.join) [] ∷ [])
unfolding quick_from longest body point look_up settle resume step all_of run_quickly misplaced declarations faults_in names_arguments free resolved text_within digits array_index
sums_that_are_just_in_range = refl
