-- The groups of a page's modules.
use Rattle.std.specs.Prelude.{◌≡◌, ℕ, Bool, not, List, [], map, filter, slice_index_or, Any, Contains}
use Rattle.std.specs.List.{list_any, range_with_len}
use Rattle.reach_report.specs.declared.Node.TheVariants.{Module}
use Rattle.reach_report.specs.Links.{Links, same_node, representative}

-- the numbers below n, in order
abbrev pub below : ℕ → List ℕ
below n = range_with_len 0 n

-- whether n is together with m
abbrev pub is_with : Links → ℕ → ℕ → Bool
is_with ls m n = same_node (representative ls (Module n)) (representative ls (Module m))

-- of n modules, those that are together with no earlier one
abbrev pub firsts : Links → ℕ → List ℕ
firsts ls n = filter (λ m. not (list_any (is_with ls m) (below m))) (below n)

-- the groups of n modules: for each of those, all that are together with it
abbrev pub groups : Links → ℕ → List (List ℕ)
groups ls n = map (λ m. filter (is_with ls m) (below n)) (firsts ls n)

-- two modules stand in one of the groups
abbrev pub StandTogether : List (List ℕ) → ℕ → ℕ → Type 0
StandTogether gs m n = Any (λ g. Contains g m × Contains g n) gs

-- a module stands in a group, and in no other
abbrev pub StandsInOne : List (List ℕ) → ℕ → Type 0
StandsInOne gs m = (k : ℕ) × Contains (slice_index_or gs k []) m × ((j : ℕ) → Contains (slice_index_or gs j []) m → j ≡ k)
