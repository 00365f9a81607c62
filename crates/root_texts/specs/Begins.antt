-- What a root begins with: it hangs on the HTML, and not on the other roots that are granted.
use Rattle.std.specs.Prelude.{◌≡◌, ℕ, List, Option, Some}
use Rattle.html_grammar.specs.Trees.{many, Tree}
use Rattle.doc_nodes.specs.Changes.{granted}
use Rattle.doc_tree.specs.Cleaned.{from_clean}
use Rattle.doc_laws.specs.Reached.{IsGrantable}
use Rattle.doc_views.specs.Seen.{nodes_seen}

-- an id that is granted among these and among others
abbrev pub RootsBeginAlike : Type 0
RootsBeginAlike = (ids others : List (List ℕ)) (ts : Tree many) (id : List ℕ) (r s : ℕ) → IsGrantable ids ts → IsGrantable others ts
    → ◌≡◌ {A = Option ℕ} (granted ids (Some id)) (Some r) → ◌≡◌ {A = Option ℕ} (granted others (Some id)) (Some s) → nodes_seen (from_clean ids ts) r ≡ nodes_seen (from_clean others ts) s
