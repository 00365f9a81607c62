-- What the methods of texts answer, by their text, their arguments and the objects (ES3 15.5.4).
use Rattle.std.specs.Prelude.{ℕ, ℤ, pos, negsuc, List, [], ◌∷◌, Option, Some, None, Result, Ok, Err, ◌++◌, length, drop, map}
use Rattle.std.specs.Global.{Vec}
use Rattle.plans.specs.Plans.{Fault, number_fault}
use Rattle.es3_objects.specs.declared.value.Value.{Value}
use Rattle.es3_objects.specs.declared.value.Value.TheVariants as v
use Rattle.es3_objects.specs.declared.value.Stop.{Stop}
use Rattle.es3_heap.specs.Objects.{Objects}
use Rattle.es3_convert.specs.Conversions.{and_then, text_of}
use Rattle.rows.specs.Arguments.{clamped, place}
use Rattle.rows.specs.Arrays.{part}
use Rattle.rows.specs.Texts.{unit_at, first_place, last_place, between, split_by, joined}
use Rattle.heap_rows.specs.Doing.{Done}
use Rattle.row_outcomes.specs.Arguments.{argument, number_argument, after}
use Rattle.row_outcomes.specs.Lists.{texts_of}
use Rattle.row_outcomes.specs.Arrays.{new_array}

-- the units of an option
abbrev pub listed : Option ℕ → List ℕ
listed None = []
listed (Some u) = u ∷ []

-- 15.5.4.4: charAt(i = 0)
abbrev pub char_at : List ℕ → List Value → Objects → Result Value Fault
char_at us args h = and_then (number_argument (pos 0) (argument 0 args) h) (λ i. Ok (v.Text (unit_at i us)))

-- 15.5.4.5: charCodeAt(i = 0), where a place past the end has no number
abbrev pub code_of : List ℕ → Result Value Fault
code_of [] = Err number_fault
code_of (u ∷ us) = Ok (v.Num (pos u))

abbrev pub char_code_at : List ℕ → List Value → Objects → Result Value Fault
char_code_at us args h = and_then (number_argument (pos 0) (argument 0 args) h) (λ i. code_of (unit_at i us))

-- a place, or -1 where there is none
abbrev pub place_value : Option ℕ → Value
place_value None = v.Num (negsuc 0)
place_value (Some i) = v.Num (pos i)

-- 15.5.4.7: indexOf(t, i = 0)
abbrev pub index_of : List ℕ → List Value → Objects → Result Value Fault
index_of us args h = and_then (text_of h (argument 0 args)) (λ t. and_then (number_argument (pos 0) (argument 1 args) h) (λ i.
    Ok (place_value (first_place t (clamped (length us) i) (drop (clamped (length us) i) us)))))

-- 15.5.4.8: lastIndexOf(t)
abbrev pub last_index_of : List ℕ → List Value → Objects → Result Value Fault
last_index_of us args h = and_then (text_of h (argument 0 args)) (λ t. Ok (place_value (last_place t 0 us)))

-- two numbers of the arguments, where the second is the length if it is undefined
abbrev pub with_ends : List ℕ → List Value → Objects → (ℤ → ℤ → Result Value Fault) → Result Value Fault
with_ends us args h go = and_then (number_argument (pos 0) (argument 0 args) h) (λ a. and_then (number_argument (pos (length us)) (argument 1 args) h) (go a))

-- 15.5.4.13: slice(a = 0, b = length)
abbrev pub slice_text : List ℕ → List Value → Objects → Result Value Fault
slice_text us args h = with_ends us args h (λ a b. Ok (v.Text (part (place (length us) a) (place (length us) b) us)))

-- 15.5.4.15: substring(a = 0, b = length)
abbrev pub substring : List ℕ → List Value → Objects → Result Value Fault
substring us args h = with_ends us args h (λ a b. Ok (v.Text (between (clamped (length us) a) (clamped (length us) b) us)))

-- 15.5.4.14: split(s): the texts that a text is taken apart into by a value, and the array of them
abbrev pub split : List ℕ → Value → Objects → Result (List Value) Fault
split us v.Undefined h = Ok (v.Text us ∷ [])
split us x h = and_then (text_of h x) (λ s. Ok (map v.Text (split_by s us)))

abbrev pub split_done : ℕ → List ℕ → List Value → Objects → Done
split_done by us args h = after (split us (argument 0 args) h) h (new_array by h)

-- the items of a list that was made
abbrev pub items_in : Result (Vec Value) Stop → Result (List Value) Stop
items_in (Ok xs) = Ok xs.items
items_in (Err s) = Err s

-- 15.5.4.6: concat(..)
abbrev pub concat_text : List ℕ → List Value → Objects → Result Value Fault
concat_text us args h = and_then (texts_of h args) (λ uss. Ok (v.Text (us ++ joined uss)))
