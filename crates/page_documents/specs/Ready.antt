-- What holds of the document with which a page begins.
use Rattle.std.specs.Prelude.{◌≡◌, ◌<◌, length, All}
use Rattle.html_grammar.specs.Trees.{Tree, many}
use Rattle.doc_nodes.specs.Rows.{Doc, nodes_of}
use Rattle.doc_laws.specs.Reached.{Reached}
use Rattle.doc_views.specs.Clear.{IsClear}
use Rattle.page_manifest.specs.Page.{Granted, the_cell, the_result, the_plain, the_root, Page}
use Rattle.page_roots.specs.Roots.{Roots, roots_of, granted_roots, number_in}
use Rattle.page_documents.specs.Documents.{IsDocument, page_doc}

-- a root that is granted has a node
abbrev pub HasNode : Doc → Roots → Granted → Type 0
HasNode d roots (the_root id) = 0 < length (nodes_of d.roots (number_in roots id))
HasNode d roots (the_cell k) = Unit {0}
HasNode d roots (the_result k) = Unit {0}
HasNode d roots (the_plain v) = Unit {0}

-- it is one that pages may begin with, it has as many roots as the page grants, and each that is granted has a node
pub record IsReady (p : Page) (ts : Tree many) : Type 0 where
  pub reached : Reached (page_doc p ts)
  pub clear : IsClear (page_doc p ts)
  pub count : length (page_doc p ts).roots ≡ length (granted_roots p)
  pub granted : All (λ m. All (λ g. HasNode (page_doc p ts) (roots_of p) g.1) m.grants) p.modules

abbrev pub DocumentsAreReady : Type 0
DocumentsAreReady = (p : Page) (ts : Tree many) → IsDocument p ts → IsReady p ts
