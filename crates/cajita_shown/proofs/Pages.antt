-- Pages: their modules are loaded, and their events are done, in order.
use Rattle.std.proofs.Common.{◌≡◌, [], ◌∷◌, refl}
use Rattle.std.specs.Prelude.{codes, pos}
use Rattle.std.specs.Fmt.{digits}
use Rattle.es3_tokens.specs.Longest.{longest}
use Rattle.es3_tokens.specs.Texts.{body}
use Rattle.es3_tokens.specs.Quick.{quick_from}
use Rattle.es3_grammar.specs.Spots.{look_up}
use Rattle.es3_grammar.specs.Machine.{settle, resume, step, all_of}
use Rattle.es3_grammar.specs.Sums.{run_quickly}
use Rattle.es3_labels.specs.Misplaced.{misplaced}
use Rattle.cajita_names.specs.Declarations.{declarations}
use Rattle.cajita_rules.specs.Faults.{faults_in}
use Rattle.cajita_forms.specs.Arguments.{names_arguments}
use Rattle.scope_rules.specs.Free.{free}
use Rattle.scope_rules.specs.Resolve.{resolved}
use Rattle.page_deeds.specs.Deeds as deed
use Rattle.page_deeds.specs.Deeds.{a_cell, a_result, to_load, to_call, to_tick, of_load, of_call, of_tick}
use Rattle.page_deeds.specs.Shown.{undefined, number, thing, a_record, error, by_return, by_throw, by_nothing}
use Rattle.rows.specs.Rows.{to_get, to_set, to_call as called}
use Rattle.cajita_meaning.specs.World.{made_name, cell_name, own_name}
use Rattle.cajita_meaning.specs.Doing.{text_within}
use Rattle.cajita_meaning.specs.Events.{the_page}
use Rattle.cajita_meaning.specs.Direct.{made, got, touched, passed, granted, ended}
use Rattle.cajita_shown.specs.Pages.{done, shown_page}

pub a_cell_is_shared_and_a_function_waits : shown_page
    (to_load 0 (codes "k.set({v: 1}); ({f: function (x) { return x.v; }});") ((codes "k", a_cell 0) ∷ []) ∷
    to_load 1 (codes "k.get().v = 2; later(function () { return a.f(k.get()); });") ((codes "k", a_cell 0) ∷ (codes "a", a_result 0) ∷ []) ∷
    to_tick 0 1 ∷ to_tick 1 1 ∷ []) 200 ≡
    done (granted 0 (cell_name 0 0) ∷ made 0 (made_name 0 0) ∷ touched 0 to_get (cell_name 0 0) (codes "set" ∷ []) ∷ got 0 (cell_name 0 0) (cell_name 0 2) ∷
    touched 0 called (cell_name 0 2) [] ∷ made 0 (made_name 0 1) ∷ made 0 (made_name 0 2) ∷ passed 0 the_page (made_name 0 2) ∷
    ended (of_load 0) (by_return (thing a_record (made_name 0 2))) ∷
    granted 1 (cell_name 0 0) ∷ granted 1 (made_name 0 2) ∷ touched 1 to_get (cell_name 0 0) (codes "get" ∷ []) ∷ got 1 (cell_name 0 0) (cell_name 0 1) ∷
    touched 1 called (cell_name 0 1) [] ∷ got 1 (cell_name 0 1) (made_name 0 0) ∷ touched 1 to_set (made_name 0 0) (codes "v" ∷ []) ∷
    made 1 (made_name 1 0) ∷ touched 1 called (own_name 1 1) [] ∷ ended (of_load 1) (by_return undefined) ∷
    touched 1 to_get (cell_name 0 0) (codes "get" ∷ []) ∷ got 1 (cell_name 0 0) (cell_name 0 1) ∷ touched 1 called (cell_name 0 1) [] ∷
    got 1 (cell_name 0 1) (made_name 0 0) ∷ touched 1 to_get (made_name 0 2) (codes "f" ∷ []) ∷ got 1 (made_name 0 2) (made_name 0 1) ∷
    touched 1 called (made_name 0 1) [] ∷ passed 1 0 (made_name 0 0) ∷ touched 0 to_get (made_name 0 0) (codes "v" ∷ []) ∷
    ended (of_tick 0 1) (by_return (number (pos 2))) ∷ ended (of_tick 1 1) by_nothing ∷ [])
unfolding quick_from longest body look_up settle resume step all_of run_quickly misplaced declarations faults_in names_arguments free resolved text_within
a_cell_is_shared_and_a_function_waits = refl

-- the result of a load that threw is undefined, for the module that is granted it and for the event that calls a key of it
pub a_load_that_throws_has_no_result : shown_page
    (to_load 0 (codes "throw {m: 1};") [] ∷ to_load 1 (codes "a;") ((codes "a", a_result 0) ∷ []) ∷ to_call 0 0 (codes "f") [] ∷ []) 50 ≡
    done (made 0 (made_name 0 0) ∷ passed 0 the_page (made_name 0 0) ∷ ended (of_load 0) (by_throw (thing a_record (made_name 0 0))) ∷
    ended (of_load 1) (by_return undefined) ∷
    made 0 (made_name 0 1) ∷ passed 0 the_page (made_name 0 1) ∷
    ended (of_call 0 0 (codes "f")) (by_throw (error (made_name 0 1) (codes "TypeError") (codes "no object"))) ∷ [])
unfolding quick_from longest body look_up settle resume step all_of run_quickly misplaced declarations faults_in names_arguments free resolved text_within
a_load_that_throws_has_no_result = refl

pub a_key_that_is_not_there_is_no_function : shown_page (to_load 0 (codes "({});") [] ∷ to_call 0 0 (codes "f") [] ∷ []) 50 ≡
    done (made 0 (made_name 0 0) ∷ passed 0 the_page (made_name 0 0) ∷ ended (of_load 0) (by_return (thing a_record (made_name 0 0))) ∷
    made 0 (made_name 0 1) ∷ passed 0 the_page (made_name 0 1) ∷
    ended (of_call 0 0 (codes "f")) (by_throw (error (made_name 0 1) (codes "TypeError") (codes "not a function"))) ∷ [])
unfolding quick_from longest body look_up settle resume step all_of run_quickly misplaced declarations faults_in names_arguments free resolved text_within
a_key_that_is_not_there_is_no_function = refl

-- no touch is told of an event's own call; what it calls is got
pub a_key_is_called_with_an_argument : shown_page (to_load 0 (codes "({f: function (x) { return x + 1; }});") [] ∷ to_call 0 0 (codes "f") (deed.number (pos 41) ∷ []) ∷ []) 50 ≡
    done (made 0 (made_name 0 0) ∷ made 0 (made_name 0 1) ∷ passed 0 the_page (made_name 0 1) ∷ ended (of_load 0) (by_return (thing a_record (made_name 0 1))) ∷
    got 0 (made_name 0 1) (made_name 0 0) ∷ ended (of_call 0 0 (codes "f")) (by_return (number (pos 42))) ∷ [])
unfolding quick_from longest body look_up settle resume step all_of run_quickly misplaced declarations faults_in names_arguments free resolved text_within
a_key_is_called_with_an_argument = refl

pub modules_that_share_nothing_meet_nowhere : shown_page (to_load 0 (codes "var o = {x: 1}; o.x;") [] ∷ to_load 1 (codes "var o = {x: 2}; o.x;") [] ∷ []) 50 ≡
    done (made 0 (made_name 0 0) ∷ touched 0 to_get (made_name 0 0) (codes "x" ∷ []) ∷ ended (of_load 0) (by_return (number (pos 1))) ∷
    made 1 (made_name 1 0) ∷ touched 1 to_get (made_name 1 0) (codes "x" ∷ []) ∷ ended (of_load 1) (by_return (number (pos 2))) ∷ [])
unfolding quick_from longest body look_up settle resume step all_of run_quickly misplaced declarations faults_in names_arguments free resolved text_within
modules_that_share_nothing_meet_nowhere = refl
