-- What the log shows of a value, and of how a turn ended. N are the names of objects.
use Rattle.std.specs.Prelude.{ℕ, ℤ, Bool, List}

-- what is shown of an object but an error: what it is
pub data Sort : Type 0 where
  a_record : Sort
  an_array : Sort
  a_function : Sort
  a_node : Sort

pub data Shown (N : Type 0) : Type 0 where
  undefined : Shown N
  null : Shown N
  truth : Bool → Shown N
  number : ℤ → Shown N
  -- its 16-bit units
  text : List ℕ → Shown N
  thing : Sort → N → Shown N
  -- its name among objects, the error's own name, and its message
  error : N → List ℕ → List ℕ → Shown N

-- a turn returned a value or threw one; or there was nothing to do
pub data Ended (N : Type 0) : Type 0 where
  by_return : Shown N → Ended N
  by_throw : Shown N → Ended N
  by_nothing : Ended N

-- under other names

abbrev pub renamed : {N M : Type 0} → (N → M) → Shown N → Shown M
renamed f undefined = undefined
renamed f null = null
renamed f (truth b) = truth b
renamed f (number n) = number n
renamed f (text us) = text us
renamed f (thing s n) = thing s (f n)
renamed f (error n name message) = error (f n) name message

abbrev pub end_renamed : {N M : Type 0} → (N → M) → Ended N → Ended M
end_renamed f (by_return v) = by_return (renamed f v)
end_renamed f (by_throw v) = by_throw (renamed f v)
end_renamed f by_nothing = by_nothing
