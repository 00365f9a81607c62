-- What was written to a sink: `Some` of those bytes, or `None` where it doesn't tell them.
use Rattle.std.specs.Prelude.{◌≡◌, ℕ, ◌<◌, ◌==◌, ◌&&◌, nat_lt, if◌then◌else◌, List, ◌++◌, length, take, Option, Some, None, ⊤}
use Rattle.caja_io.specs.Count.{next_count}

-- These bytes now stand behind what was written. A sink goes on telling.
abbrev pub Appends : Option (List ℕ) → Option (List ℕ) → List ℕ → Type 0
Appends (Some old) (Some new) bytes = new ≡ old ++ bytes
Appends None None bytes = ⊤
Appends _ _ bytes = ⊥

-- The first of these bytes were written, and not all of them.
pub record AppendsPart (old new : Option (List ℕ)) (bytes : List ℕ) : Type 0 where
  pub count : ℕ
  pub not_all : count < length bytes
  pub appends : Appends old new (take count bytes)

-- the count of empty writes after a write that took n bytes of a piece: one more where n is 0 and the piece isn't empty
abbrev pub count_empty : ℕ → List ℕ → ℕ → ℕ
count_empty count piece n = if n == 0 && nat_lt 0 (length piece) then next_count count else count
