-- Parts of arguments objects, as data.
use Rattle.std.specs.Prelude.{ℕ, zero, suc, ◌+◌, List, [], ◌∷◌, ◌++◌, Option, Some, None, drop, nat_eq, if◌then◌else◌}
use Rattle.caja_units.specs.Index.{number_units}
use Rattle.es3_objects.specs.declared.value.Value.{Value}
use Rattle.es3_language.specs.Store.{Names, Shared, name_value}
use Rattle.es3_language.specs.Arguments.{value_or, comes_again, without_item}

-- the parameter whose value an item has, where the parameters from its own on are these
abbrev pub own_parameter : List (List ℕ) → Option (List ℕ)
own_parameter [] = None
own_parameter (x ∷ xs) = if comes_again x xs then None else Some x

-- the value of the item at an index
abbrev pub bound_value : Option (List ℕ) → Value → Names → Value
bound_value None v names = v
bound_value (Some x) v names = value_or v (name_value x names)

abbrev pub item_value : List (List ℕ) → ℕ → Value → Names → Value
item_value xs i v names = bound_value (own_parameter (drop i xs)) v names

-- the item of an index, if it has the value of a parameter
abbrev pub item_of : ℕ → Option (List ℕ) → List (List ℕ × List ℕ)
item_of i None = []
item_of i (Some x) = (number_units i, x) ∷ []

-- the items from an index on that have the values of the first n parameters
abbrev pub shared_front : ℕ → List (List ℕ) → ℕ → List (List ℕ × List ℕ)
shared_front i [] n = []
shared_front i (x ∷ xs) zero = []
shared_front i (x ∷ xs) (suc n) = item_of i (own_parameter (x ∷ xs)) ++ shared_front (i + 1) xs n

-- an arguments object without an item, if it is this one
abbrev pub one_unshared : ℕ → List ℕ → Shared → Shared
one_unshared o k g = if nat_eq g.object o then record g { items = without_item k g.items } else g
