-- How handlers are kept: in one list, and for each node the places of its handlers there, in the order in which they were registered.
use Rattle.std.specs.Prelude.{◌≡◌, ℕ, suc, List, [], ◌∷◌, ◌++◌, map, nat_eq, slice_get, slice_index_or, if◌then◌else◌}
use Rattle.std.specs.Option.{option_to_list}
use Rattle.dom_handlers.specs.declared.kinds.Handler.{Handler}

-- what stands at some places of a list, in their order
abbrev pub found : List Handler → List ℕ → List Handler
found hs [] = []
found hs (p ∷ ps) = option_to_list (slice_get hs p) ++ found hs ps

-- the places of a node's handlers, where the first of all has a place
abbrev pub places_from : ℕ → ℕ → List Handler → List ℕ
places_from at n [] = []
places_from at n (x ∷ xs) = if nat_eq x.node n then at ∷ places_from (suc at) n xs else places_from (suc at) n xs

-- the places that are kept for a node
abbrev pub places_of : {A : Type 0} → (A → List ℕ) → List A → ℕ → List ℕ
places_of items pss n = slice_index_or (map items pss) n []

-- they are those of its handlers
abbrev pub AreKept : {A : Type 0} → (A → List ℕ) → List A → List Handler → Type 0
AreKept items pss hs = (n : ℕ) → places_of items pss n ≡ places_from 0 n hs
