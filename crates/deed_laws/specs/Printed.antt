-- What is written of a granted root.
use Rattle.std.specs.Prelude.{◌≡◌, ◌≢◌, ℕ, List, length}
use Rattle.std.specs.Option.{option_to_list}
use Rattle.doc_nodes.specs.Rows.{Doc, node_with}
use Rattle.doc_tree.specs.Printing.{printed}
use Rattle.doc_laws.specs.Owned.{Grows}
use Rattle.doc_laws.specs.Reached.{Reached}
use Rattle.doc_laws.specs.Within.{IsWithin}

-- the node that the root begins with, and what is below it, as HTML
abbrev pub root_printed : ℕ → Doc → List ℕ
root_printed r d = printed (length d.rows) d (option_to_list (node_with d r 0))

-- what stays within a root leaves what is written of another
abbrev pub OthersStay : Type 0
OthersStay = (q r : ℕ) (d e : Doc) → Reached d → Grows d e → IsWithin r d e → q ≢ r → root_printed q e ≡ root_printed q d
