-- Nodes with what is below them, in document order.
use Rattle.std.specs.Prelude.{ℕ, zero, suc, List, [], ◌∷◌, ◌++◌, length}
use Rattle.doc_nodes.specs.Rows.{Doc, row_at, children_in}
use Rattle.node_deeds.specs.declared.walking.Pending.{Pending}

-- by so many levels at most
unfoldable pub walk : ℕ → Doc → List ℕ → List ℕ
walk zero d ns = []
walk (suc k) d [] = []
walk (suc k) d (n ∷ ns) = (n ∷ walk k d (children_in (row_at d n))) ++ walk (suc k) d ns

-- a chain of parents is no longer than the rows are many
abbrev pub at_and_below : Doc → ℕ → List ℕ
at_and_below d n = walk (length d.rows) d (n ∷ [])

-- a node that is still to be visited, with what is below it, by so many levels at most
abbrev pub visits : Doc → Pending → List ℕ
visits d p = p.node ∷ walk p.levels d (children_in (row_at d p.node))

-- nodes that are still to be visited, the last first
unfoldable pub all_visits : Doc → List Pending → List ℕ
all_visits d [] = []
all_visits d (p ∷ ps) = all_visits d ps ++ visits d p
