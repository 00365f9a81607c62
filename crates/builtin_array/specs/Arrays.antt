-- What the methods of arrays come to, by the array, their arguments and the objects (ES3 15.4.4).
use Rattle.std.specs.Prelude.{ℕ, ◌-◌, pos, List, [], ◌∷◌, ◌++◌, Option, Some, None, Result, Ok, Err, length, slice_get, take, drop, reverse, codes}
use Rattle.std.specs.List.{flat_map}
use Rattle.plans.specs.Plans.{Fault}
use Rattle.es3_objects.specs.declared.value.Value.{Value}
use Rattle.es3_objects.specs.declared.value.Value.TheVariants as v
use Rattle.es3_heap.specs.Objects.{Objects}
use Rattle.es3_convert.specs.Conversions.{and_then, array_items, text_within, joined}
use Rattle.rows.specs.Arguments.{place}
use Rattle.rows.specs.Arrays.{part}
use Rattle.heap_rows.specs.Doing.{Done}
use Rattle.row_outcomes.specs.Arguments.{argument, number_argument, text_argument, told, after}
use Rattle.row_outcomes.specs.Arrays.{new_array, changed_array}
use Rattle.builtin_array.specs.declared.receivers.Unfit.{Unfit}
use Rattle.builtin_array.specs.Receivers.{array_of}

-- 15.4.4.4: concat(..), where an array gives its items, and another value itself
abbrev pub items_or : Objects → Value → Result ℕ Unfit → List Value
items_or h x (Ok o) = array_items h o
items_or h x (Err why) = x ∷ []

abbrev pub spread : Objects → Value → List Value
spread h x = items_or h x (array_of h x)

abbrev pub concat : ℕ → List Value → ℕ → Objects → Done
concat by args o h = new_array by h (array_items h o ++ flat_map (spread h) args)

-- 15.4.4.5: join(s = ",")
abbrev pub join : List Value → ℕ → Objects → Result Value Fault
join args o h = and_then (text_argument (codes ",") (argument 0 args) h) (λ s. and_then (joined (text_within 31 h) s (array_items h o)) (λ us. Ok (v.Text us)))

-- 15.4.4.10: slice(a = 0, b = length)
abbrev pub places : ℕ → List Value → Objects → Result (ℕ × ℕ) Fault
places n args h = and_then (number_argument (pos 0) (argument 0 args) h) (λ a. and_then (number_argument (pos n) (argument 1 args) h) (λ b. Ok (place n a, place n b)))

abbrev pub slice : ℕ → List Value → ℕ → Objects → Done
slice by args o h = after (places (length (array_items h o)) args h) h (λ p. new_array by h (part p.0 p.1 (array_items h o)))

-- 15.4.4.7, 15.4.4.13: push(..) and unshift(..) answer the new length
abbrev pub counted : ℕ → List Value → Objects → Done
counted o xs h = changed_array o xs (v.Num (pos (length xs))) h

abbrev pub push : List Value → ℕ → Objects → Done
push args o h = counted o (array_items h o ++ args) h

abbrev pub unshift : List Value → ℕ → Objects → Done
unshift args o h = counted o (args ++ array_items h o) h

-- 15.4.4.6, 15.4.4.9: pop() and shift() answer the item that they take, and undefined where there is none
abbrev pub taken : ℕ → Option Value → List Value → Objects → Done
taken o None xs h = told (Ok v.Undefined) h
taken o (Some x) xs h = changed_array o xs x h

abbrev pub pop : ℕ → Objects → Done
pop o h = let xs = array_items h o in taken o (slice_get xs (length xs - 1)) (take (length xs - 1) xs) h

abbrev pub shift : ℕ → Objects → Done
shift o h = let xs = array_items h o in taken o (slice_get xs 0) (drop 1 xs) h

-- 15.4.4.8: reverse()
abbrev pub turn : ℕ → Objects → Done
turn o h = changed_array o (reverse (array_items h o)) (v.Obj o) h
