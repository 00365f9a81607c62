-- Properties of which the first stand at consecutive indices (ES3 15.4), and the others behind them.
pub use Rattle.indexmap.specs.IndexMap.{insert_entry}
use Rattle.std.specs.Prelude.{◌≡◌, ◌<◌, ◌≤◌, ℕ, ◌+◌, Bool, false, true, not, List, [], ◌∷◌, ◌++◌, Option, Some, None, length, nat_lt, slice_get, if◌then◌else◌}
use Rattle.caja_units.specs.Units.{same_units}
use Rattle.caja_units.specs.Index.{array_index, number_units}

-- what stands at the indices from 0 on, where anything does, and what stands at other keys
pub record Indexed (P : Type 0) : Type 0 where
  pub slots : List (Option P)
  pub others : List (List ℕ × P)

module _ {P : Type 0} where
  -- the properties of the slots from an index on
  abbrev pub present : ℕ → List (Option P) → List (List ℕ × P)
  present i [] = []
  present i (None ∷ xs) = present (i + 1) xs
  present i (Some p ∷ xs) = (number_units i, p) ∷ present (i + 1) xs

  -- all of them, in the order in which they were made
  abbrev pub entries : Indexed P → List (List ℕ × P)
  entries x = present 0 x.slots ++ x.others

  -- what a slot holds, if there is one and it is full
  abbrev pub slot_value : Option (Option P) → Option P
  slot_value None = None
  slot_value (Some x) = x

  abbrev pub is_full : Option (Option P) → Bool
  is_full None = false
  is_full (Some None) = false
  is_full (Some (Some p)) = true

  -- the full slot of a key
  abbrev pub full_at : List (Option P) → Option ℕ → Option ℕ
  full_at xs None = None
  full_at xs (Some i) = if is_full (slice_get xs i) then Some i else None

  abbrev pub full_slot : List ℕ → List (Option P) → Option ℕ
  full_slot k xs = full_at xs (array_index k)

  -- what a slot, or an entry, adds to properties
  abbrev pub with_slot : ℕ → Option P → List (List ℕ × P) → List (List ℕ × P)
  with_slot i None es = es
  with_slot i (Some p) es = insert_entry same_units es (number_units i) p

  abbrev pub with_entry : Option (List ℕ × P) → List (List ℕ × P) → List (List ℕ × P)
  with_entry None es = es
  with_entry (Some e) es = insert_entry same_units es e.0 e.1

  -- no key is an index
  abbrev pub NoIndex : List (List ℕ × P) → Type 0
  NoIndex [] = Unit {0}
  NoIndex (e ∷ es) = (array_index e.0 ≡ None) × NoIndex es

-- where there are slots, each index is there; and behind them none is but where that is noted
pub record IsIndexed {P : Type 0} (slots : List (Option P)) (others : List (List ℕ × P)) (mixed : Bool) : Type 0 where
  pub bounded : length slots ≤ 4294967295
  pub slotted : 0 < length slots → mixed ≡ false
  pub apart : mixed ≡ false → NoIndex others

-- an index of which the next slot is, with nothing behind the slots
pub record IsNext {P : Type 0} (i : ℕ) (x : Indexed P) : Type 0 where
  pub small : i < 4294967295
  pub last : i ≡ length x.slots
  pub alone : x.others ≡ []

-- whether a key is an index at or past another
abbrev pub is_from : ℕ → Option ℕ → Bool
is_from n None = false
is_from n (Some i) = not (nat_lt i n)

abbrev pub is_index_from : ℕ → List ℕ → Bool
is_index_from n k = is_from n (array_index k)
