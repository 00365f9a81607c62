-- The queues of a page's modules: a list for each module, the first to be called in front.
use Rattle.std.specs.Prelude.{ℕ, List, [], ◌∷◌, ◌++◌, Option, drop, slice_get, slice_set, slice_index_or}
use Rattle.es3_objects.specs.declared.value.Value.{Value}

-- the functions that wait for module m
abbrev pub queue : ℕ → List (List Value) → List Value
queue m qs = slice_index_or qs m []

-- f waits behind all others of module m
abbrev pub added : ℕ → Value → List (List Value) → List (List Value)
added m f qs = slice_set qs m (queue m qs ++ f ∷ [])

-- the function that is called next, if any waits
abbrev pub first_of : ℕ → List (List Value) → Option Value
first_of m qs = slice_get (queue m qs) 0

-- it waits no longer
abbrev pub without_first : ℕ → List (List Value) → List (List Value)
without_first m qs = slice_set qs m (drop 1 (queue m qs))
