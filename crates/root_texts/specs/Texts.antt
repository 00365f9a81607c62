-- What is printed of a node of a root and of what is below it, by the nodes of the root.
use Rattle.std.specs.Prelude.{◌≡◌, ℕ, zero, suc, List, [], ◌∷◌, ◌++◌, map, length, if◌then◌else◌}
use Rattle.html_grammar.specs.Tables.{is_in, void}
use Rattle.html_grammar.specs.Tags as t
use Rattle.html_kept.specs.Printed.{printed_text, start_tag, end_tag}
use Rattle.doc_nodes.specs.Rows.{Doc, nodes_of}
use Rattle.doc_tree.specs.Printing.{printed}
use Rattle.doc_laws.specs.Reached.{Reached}
use Rattle.doc_views.specs.Seen.{nodes_seen, Stands}
use Rattle.doc_views.specs.Clear.{IsClear}
use Rattle.rows.specs.Document.{Node, node_at, is_text}

abbrev pub attr_of : List ℕ × List ℕ → t.Attr
attr_of p = record { name = p.0; value = p.1 }

-- what a node begins with: a tag with its attributes, or the whole text; and what it ends with
abbrev pub opening_of : Node → List ℕ
opening_of n = if is_text n then printed_text n.text else start_tag n.tag (map attr_of n.attributes)

abbrev pub ending_of : Node → List ℕ
ending_of n = if is_text n then [] else if is_in void n.tag then [] else end_tag n.tag

-- what is shown under it: nothing under a text, nor under a tag without content
abbrev pub shown_of : Node → List ℕ
shown_of n = if is_text n then [] else if is_in void n.tag then [] else n.children

-- nodes with what is below them, by so many levels at most
unfoldable pub printed_of : ℕ → List Node → List ℕ → List ℕ
printed_of zero ns ks = []
printed_of (suc l) ns [] = []
printed_of (suc l) ns (k ∷ ks) = (opening_of (node_at ns k) ++ (printed_of l ns (shown_of (node_at ns k)) ++ ending_of (node_at ns k))) ++ printed_of (suc l) ns ks

-- no path is longer than there are nodes
abbrev pub text_at : List Node → ℕ → List ℕ
text_at ns k = printed_of (length ns) ns (k ∷ [])

-- a node of the document with what is below it
abbrev pub text_in : Doc → ℕ → List ℕ
text_in d n = printed (length d.rows) d (n ∷ [])

abbrev pub first_text : Doc → List ℕ → List ℕ
first_text d [] = []
first_text d (n ∷ ns) = text_in d n

-- a root: the first of its nodes, with what is below it
abbrev pub root_text : Doc → ℕ → List ℕ
root_text d r = first_text d (nodes_of d.roots r)

abbrev pub NodesArePrinted : Type 0
NodesArePrinted = (d : Doc) (n r k : ℕ) → Reached d → IsClear d → Stands d n r k → text_in d n ≡ text_at (nodes_seen d r) k

abbrev pub RootsArePrinted : Type 0
RootsArePrinted = (d : Doc) (r : ℕ) → Reached d → IsClear d → root_text d r ≡ text_at (nodes_seen d r) 0
