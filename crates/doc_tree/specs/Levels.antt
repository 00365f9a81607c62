-- What is left to print, where printing has come to some levels.
use Rattle.std.specs.Prelude.{ℕ, zero, suc, ◌+◌, ◌-◌, List, [], ◌∷◌, ◌++◌, drop}
use Rattle.doc_nodes.specs.Rows.{Doc, row_at}
use Rattle.doc_tree.specs.declared.printing.Level.{Level}
use Rattle.doc_tree.specs.Printing.{ending, shown, printed}

-- what is left to print of a level, which has so many levels under it
abbrev pub left_of : ℕ → Doc → Level → List ℕ
left_of k d f = printed k d (drop f.place (shown d f.node)) ++ ending (row_at d f.node)

-- what is left to print of levels, the outermost first
unfoldable pub left_of_all : ℕ → Doc → List Level → List ℕ
left_of_all k d [] = []
left_of_all k d (f ∷ fs) = left_of_all (k - 1) d fs ++ left_of k d f

-- how many steps printing takes: two for each node
unfoldable pub weight : ℕ → Doc → List ℕ → ℕ
weight zero d ns = 0
weight (suc k) d [] = 0
weight (suc k) d (n ∷ ns) = 2 + weight k d (shown d n) + weight (suc k) d ns

abbrev pub weight_of : ℕ → Doc → Level → ℕ
weight_of k d f = weight k d (drop f.place (shown d f.node)) + 1

unfoldable pub weight_of_all : ℕ → Doc → List Level → ℕ
weight_of_all k d [] = 0
weight_of_all k d (f ∷ fs) = weight_of_all (k - 1) d fs + weight_of k d f
