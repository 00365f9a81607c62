-- What a service of the embedder's answers: the value of the first of its rows that has the arguments which are given, or else its other value.
use Rattle.std.specs.Prelude.{ℕ, zero, suc, Bool, true, false, ◌&&◌, List, [], ◌∷◌, Option, Some, None, slice_get, if◌then◌else◌}
use Rattle.std.specs.Bool.{beq}
use Rattle.std.specs.Ordering.{int_eq}
use Rattle.caja_units.specs.Units.{same_units}
use Rattle.page_deeds.specs.Deeds.{Plain, null, truth, number, text}

-- ---- plain values

abbrev pub same_plain : Plain → Plain → Bool
same_plain null null = true
same_plain (truth a) (truth b) = beq a b
same_plain (number m) (number n) = int_eq m n
same_plain (text us) (text vs) = same_units us vs
same_plain a b = false

-- one by one, and as many of the one as of the other
abbrev pub same_plains : List Plain → List Plain → Bool
same_plains [] [] = true
same_plains (a ∷ rest) (b ∷ others) = same_plain a b && same_plains rest others
same_plains rest others = false

-- ---- rows

-- arguments, and the value for them
pub record Row : Type 0 where
  pub args : List Plain
  pub value : Plain

-- the place of the first row with these arguments, from 0; or how many rows there are
abbrev pub place_of : List Row → List Plain → ℕ
place_of [] args = zero
place_of (r ∷ rs) args = if same_plains r.args args then zero else suc (place_of rs args)

-- the value of that row, or the other one
abbrev pub value_or : Plain → Option Row → Plain
value_or other None = other
value_or other (Some r) = r.value

abbrev pub value_of : List Row → Plain → List Plain → Plain
value_of rs other args = value_or other (slice_get rs (place_of rs args))

-- ---- services

pub record Service : Type 0 where
  pub name : List ℕ
  pub rows : List Row
  pub other : Plain

-- what the service of this name answers
abbrev pub answer : List Service → List ℕ → List Plain → Option Plain
answer [] name args = None
answer (s ∷ ss) name args = if same_units name s.name then Some (value_of s.rows s.other args) else answer ss name args
