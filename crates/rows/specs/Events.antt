-- What an event does with the result of a module.
use Rattle.std.specs.Prelude.{ℕ, false, List, codes}
use Rattle.rows.specs.Rows.{Handle, held, Sight, nothing, a_null, a_function, Ending, throws, calls, Row, ends, looks}
use Rattle.rows.specs.Public.{pub_get}
use Rattle.rows.specs.Arguments.{arguments}

-- a key of a value is called as a method of it, from outside: nothing is touched, and the call isn't recorded. The arguments are the values behind the first one, and
-- there are n values in all
abbrev pub found_end : Handle → List Handle → Sight → Ending
found_end f args (a_function sort) = calls false f (held 0) args
found_end f args s = throws (codes "not a function")

abbrev pub key_row : List ℕ → ℕ → Sight → Row
key_row k n nothing = ends (throws (codes "no object"))
key_row k n a_null = ends (throws (codes "no object"))
key_row k n s = looks (pub_get (held 0) s k) (λ f. ends (found_end (pub_get (held 0) s k) (arguments n) f))

abbrev pub call_key : List ℕ → ℕ → Row
call_key k n = looks (held 0) (key_row k n)
