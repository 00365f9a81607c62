-- The number of a text: texts of different numbers are different.
use Rattle.std.specs.Prelude.{ℕ, zero, suc, ◌+◌, ◌*◌, ◌^◌, List, [], ◌++◌, fold, length, slice_index}
use Rattle.std.specs.Int.{div_ceil}
use Rattle.std.specs.Hash as fed
use Rattle.std.specs.Hash.DefaultHasher as sip

-- four units from a place on as one number, the first lowest; there are zeros past the end
abbrev pub word : List ℕ → ℕ → ℕ
word us at = slice_index us at + slice_index us (at + 1) * 2 ^ 16 + slice_index us (at + 2) * 2 ^ 32 + slice_index us (at + 3) * 2 ^ 48

-- the first n numbers of four units
abbrev pub words : ℕ → List ℕ → List (List ℕ)
words zero us = []
words (suc n) us = words n us ++ fed.u64 (word us (n * 4))

-- the units, four in a number
abbrev pub in_words : List ℕ → List (List ℕ)
in_words us = words (div_ceil (length us) 4) us

-- SipHash-1-3 of the units, with both keys 0
abbrev pub number_of : List ℕ → ℕ
number_of us = sip.finish (fold sip.write sip.initial (in_words us))
