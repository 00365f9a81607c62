-- What a page keeps of the nodes that its roots begin with.
use Rattle.std.specs.Prelude.{ℕ, zero, suc, ◌+◌, List, [], ◌∷◌, length}
use Rattle.rows.specs.Document.{Node}
use Rattle.heap_rows.specs.Doing.{Page, with_of}

-- so many places, one behind the other
abbrev pub places_from : ℕ → ℕ → List ℕ
places_from at zero = []
places_from at (suc k) = at ∷ places_from (suc at) k

-- the nodes of each root, from a root on, whose objects stand from a place on
abbrev pub page_with_roots : ℕ → ℕ → List (List Node) → Page → Page
page_with_roots root at [] g = g
page_with_roots root at (ns ∷ rest) g =
    page_with_roots (suc root) (at + length ns) rest (record { cells = g.cells; queues = g.queues; nodes = with_of root ns g.nodes; facets = with_of root (places_from at (length ns)) g.facets; handlers = g.handlers })
