-- How a row comes by its arguments. A built-in's receiver is the value 0, and its arguments stand behind it; in the place of a receiver that isn't wanted
-- stands the function itself. It is told how many values there are.
use Rattle.std.specs.Prelude.{ℕ, zero, suc, ◌+◌, ◌-◌, ℤ, pos, List, [], ◌∷◌, min, nat_lt, int_lt, unsigned_abs, codes, if◌then◌else◌}
use Rattle.rows.specs.Rows.{Handle, undefined, held, Sight, nothing, a_text, an_array, Ending, throws, Row, ends, as_text, as_number, looks}

-- the value at a place, of so many
abbrev pub value : ℕ → ℕ → Handle
value i n = if nat_lt i n then held i else undefined

-- an argument, from 0, of so many values
abbrev pub argument : ℕ → ℕ → Handle
argument i n = if nat_lt (i + 1) n then held (i + 1) else undefined

-- so many values, one after another, from a place on
abbrev pub values_from : ℕ → ℕ → List Handle
values_from i zero = []
values_from i (suc n) = held i ∷ values_from (i + 1) n

abbrev pub arguments : ℕ → List Handle
arguments n = values_from 1 (n - 1)

-- the texts, the numbers of some, from the left
abbrev pub as_texts : List Handle → (List (List ℕ) → Row) → Row
as_texts [] go = go []
as_texts (x ∷ xs) go = as_text x (λ us. as_texts xs (λ rest. go (us ∷ rest)))

abbrev pub as_numbers : List Handle → (List ℤ → Row) → Row
as_numbers [] go = go []
as_numbers (x ∷ xs) go = as_number x (λ n. as_numbers xs (λ rest. go (n ∷ rest)))

-- some value where it is undefined, and else what is done with it
abbrev pub unless_undefined : Row → Row → Sight → Row
unless_undefined default go nothing = default
unless_undefined default go s = go

-- its number, its text, with a default where it is undefined
abbrev pub number_or : ℤ → Handle → (ℤ → Row) → Row
number_or default x go = looks x (unless_undefined (go default) (as_number x go))

abbrev pub text_or : List ℕ → Handle → (List ℕ → Row) → Row
text_or default x go = looks x (unless_undefined (go default) (as_text x go))

-- the receiver: an array; one that isn't frozen; a text
abbrev pub array_seen : (List Handle → Row) → Sight → Row
array_seen go (an_array frozen xs) = go xs
array_seen go s = ends (throws (codes "bad receiver"))

abbrev pub on_array : (List Handle → Row) → Row
on_array go = looks (held 0) (array_seen go)

abbrev pub open_seen : (List Handle → Ending) → Sight → Ending
open_seen go (an_array frozen xs) = if frozen then throws (codes "not writable") else go xs
open_seen go s = throws (codes "bad receiver")

abbrev pub on_open_array : (List Handle → Ending) → Row
on_open_array go = looks (held 0) (λ s. ends (open_seen go s))

abbrev pub text_seen : (List ℕ → Row) → Sight → Row
text_seen go (a_text us) = go us
text_seen go s = ends (throws (codes "bad receiver"))

abbrev pub on_text : (List ℕ → Row) → Row
on_text go = looks (held 0) (text_seen go)

-- a place in so many: no less than 0 and no more than all; and counted from the end where it is negative
abbrev pub clamped : ℕ → ℤ → ℕ
clamped count n = if int_lt n (pos 0) then 0 else min (unsigned_abs n) count

abbrev pub place : ℕ → ℤ → ℕ
place count n = if int_lt n (pos 0) then count - unsigned_abs n else min (unsigned_abs n) count
