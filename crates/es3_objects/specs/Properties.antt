-- The properties of an object by their keys (ES3 8.6.1, 8.6.2.1 to 8.6.2.5): how one is found, written, defined and taken away.
use Rattle.std.specs.Prelude.{ℕ, ◌+◌, Bool, true, not, List, [], ◌∷◌, Option, Some, None, nat_lt, if◌then◌else◌, pos, codes, unsigned_abs}
use Rattle.caja_units.specs.Units.{same_units}
use Rattle.caja_units.specs.Index.{array_index}
use Rattle.es3_objects.specs.declared.value.Value.{Value}
use Rattle.es3_objects.specs.declared.value.Value.TheVariants.{Undefined, Num}
use Rattle.es3_objects.specs.declared.value.Attrs.{Attrs}
use Rattle.es3_objects.specs.declared.value.Class.{Class}
use Rattle.es3_objects.specs.declared.value.Class.TheVariants.{Array}
use Rattle.es3_objects.specs.Objects.{Property, plain_attrs}

-- the property of a key
abbrev pub find : List ℕ → List Property → Option Property
find k [] = None
find k (p ∷ ps) = if same_units k p.key then Some p else find k ps

abbrev pub value_of : Option Property → Value
value_of None = Undefined
value_of (Some p) = p.value

abbrev pub may_write : Option Property → Bool
may_write None = true
may_write (Some p) = not p.attrs.read_only

-- the value of a property that is there, or a new last property without attributes
abbrev pub written : List ℕ → Value → List Property → List Property
written k v [] = record { key = k; value = v; attrs = plain_attrs } ∷ []
written k v (p ∷ ps) = if same_units k p.key then record { key = p.key; value = v; attrs = p.attrs } ∷ ps else p ∷ written k v ps

-- a property with these attributes, in the place of one that is there, or the last
abbrev pub defined : List ℕ → Value → Attrs → List Property → List Property
defined k v a [] = record { key = k; value = v; attrs = a } ∷ []
defined k v a (p ∷ ps) = if same_units k p.key then record { key = k; value = v; attrs = a } ∷ ps else p ∷ defined k v a ps

abbrev pub length_key : List ℕ
length_key = codes "length"

-- the length that an array's property gives
abbrev pub length_of : Value → ℕ
length_of (Num n) = unsigned_abs n
length_of v = 0

-- another value of a property that is there
abbrev pub revalued : List ℕ → Value → List Property → List Property
revalued k v [] = []
revalued k v (p ∷ ps) = if same_units k p.key then record { key = p.key; value = v; attrs = p.attrs } ∷ ps else p ∷ revalued k v ps

abbrev pub at_least : Option ℕ → List Property → List Property
at_least None ps = ps
at_least (Some i) ps = if nat_lt i (length_of (value_of (find length_key ps))) then ps else revalued length_key (Num (pos (i + 1))) ps

-- 15.4.5.1: an array is longer than each of its indices
abbrev pub lengthened : Class → List ℕ → List Property → List Property
lengthened Array k ps = at_least (array_index k) ps
lengthened c k ps = ps

-- 8.6.2.5: whether a property may go; one that isn't there may
abbrev pub may_delete : Option Property → Bool
may_delete None = true
may_delete (Some p) = not p.attrs.dont_delete

-- the properties without that of a key, unless it is DontDelete
abbrev pub without : List ℕ → List Property → List Property
without k [] = []
without k (p ∷ ps) = if same_units k p.key then (if p.attrs.dont_delete then p ∷ ps else ps) else p ∷ without k ps
