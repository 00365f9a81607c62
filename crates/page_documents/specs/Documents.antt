-- The document of a page: its HTML is read and cleaned, and so are its sheets, and the ids that the page speaks of are looked for in what is kept of the HTML; or what refuses it.
use Rattle.std.specs.Prelude.{◌≡◌, ◌↔◌, ℕ, List, Result, Ok, Err}
use Rattle.html_grammar.specs.Trees.{Tree, many}
use Rattle.html_kept.specs.Table.{Answers}
use Rattle.html_urls.specs.Answers.{for_documents}
use Rattle.css_kept.specs.Table as css
use Rattle.css_urls.specs.Answers.{for_sheets}
use Rattle.doc_nodes.specs.Rows.{Doc}
use Rattle.doc_tree.specs.Cleaned.{from_clean}
use Rattle.page_manifest.specs.Faults.{Fault, Found}
use Rattle.page_manifest.specs.Page.{Page}
use Rattle.page_roots.specs.Roots.{granted_roots}
use Rattle.page_binding.specs.Bound.{bind}
use Rattle.page_styles.specs.Sheets.{styles_of}
use Rattle.page_documents.specs.Html.{clean_of}

-- what is answered for the URLs of a page's document, by the table of its embedder's rule, joined to the page's base
abbrev pub page_urls : Page → Answers
page_urls p = for_documents p.rule p.base

-- and for those of its sheets
abbrev pub sheet_urls : Page → css.Answers
sheet_urls p = for_sheets p.rule p.base

-- what is written for the sheets of a page
abbrev pub styles_outcome : Page → Found (List (List ℕ))
styles_outcome p = styles_of (sheet_urls p) p.styles

-- the trees that stand for the HTML of a page, in which its ids are found; none of its sheets is refused
pub record IsDocument (p : Page) (ts : Tree many) : Type 0 where
  pub clean : clean_of (page_urls p) p.html ≡ Ok ts
  pub styles : List (List ℕ)
  pub styled : styles_outcome p ≡ Ok styles
  pub bound : bind p ts ≡ Ok (granted_roots p)

-- the document with which the page begins
abbrev pub page_doc : Page → Tree many → Doc
page_doc p ts = from_clean (granted_roots p) ts

-- why a page has no document: its HTML is refused, a sheet is, or an id is
pub data NoDocument : Type 0 where
  no_html : Fault → NoDocument
  no_css : Fault → NoDocument
  no_id : Fault → NoDocument

abbrev pub where_found : {A : Type 0} → Tree many → Found A → Result (Tree many) NoDocument
where_found ts (Ok ids) = Ok ts
where_found ts (Err f) = Err (no_id f)

abbrev pub where_styled : {A : Type 0} → Page → Tree many → Found A → Result (Tree many) NoDocument
where_styled p ts (Ok styles) = where_found ts (bind p ts)
where_styled p ts (Err f) = Err (no_css f)

abbrev pub where_clean : Page → Found (Tree many) → Result (Tree many) NoDocument
where_clean p (Ok ts) = where_styled p ts (styles_outcome p)
where_clean p (Err f) = Err (no_html f)

abbrev pub document_outcome : Page → Result (Tree many) NoDocument
document_outcome p = where_clean p (clean_of (page_urls p) p.html)

-- the HTML is cleaned, and a sheet is refused
pub record IsUnstyled (p : Page) (f : Fault) : Type 0 where
  pub trees : Tree many
  pub clean : clean_of (page_urls p) p.html ≡ Ok trees
  pub fault : styles_outcome p ≡ Err f

-- an id is refused in the trees that the HTML is cleaned to, where no sheet is
pub record IsUnbound (p : Page) (f : Fault) : Type 0 where
  pub trees : Tree many
  pub clean : clean_of (page_urls p) p.html ≡ Ok trees
  pub styles : List (List ℕ)
  pub styled : styles_outcome p ≡ Ok styles
  pub fault : bind p trees ≡ Err f

-- a page has a document just where it is its document, and is refused for its HTML, for a sheet, or for an id, just where that refuses it
pub record IsOutcome (p : Page) : Type 0 where
  pub where_document : (ts : Tree many) → (document_outcome p ≡ Ok ts) ↔ IsDocument p ts
  pub where_no_html : (f : Fault) → (document_outcome p ≡ Err (no_html f)) ↔ (clean_of (page_urls p) p.html ≡ Err f)
  pub where_no_css : (f : Fault) → (document_outcome p ≡ Err (no_css f)) ↔ IsUnstyled p f
  pub where_no_id : (f : Fault) → (document_outcome p ≡ Err (no_id f)) ↔ IsUnbound p f
