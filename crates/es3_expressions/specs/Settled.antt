-- What an operator gives that wants no memory to be told.
use Rattle.es3_language.specs.Operators as o

-- the run stops for good
abbrev pub IsFault : o.Given → Type 0
IsFault (o.faults f) = Unit {0}
IsFault g = ⊥

-- a value, or the run stops: no error that is to be thrown
abbrev pub IsSettled : o.Given → Type 0
IsSettled (o.raises message) = ⊥
IsSettled g = Unit {0}
