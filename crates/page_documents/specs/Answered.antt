-- What is answered for a page: its document, or what refuses it.
use Rattle.std.specs.Prelude.{◌≡◌, ℕ, List, map, Result, Ok, Err}
use Rattle.html_grammar.specs.Trees.{Tree, many}
use Rattle.html_tree.specs.Views.{trees}
use Rattle.html_kept.specs.Table as html
use Rattle.html_cajoler.specs.declared.keeping.Clean.{Clean}
use Rattle.page_manifest.specs.Page.{Page}
use Rattle.page_roots.specs.Roots.{roots_of}
use Rattle.page_documents.specs.Html.{clean_of, IsRefused}
use Rattle.page_documents.specs.Documents.{page_doc, styles_outcome, no_html, no_css, no_id, document_outcome}
use Rattle.page_documents.specs.declared.DocumentError.{DocumentError}
use Rattle.page_documents.specs.declared.DocumentError.TheVariants as e
use Rattle.page_documents.specs.declared.PageDocument.{PageDocument}

-- the error tells what refuses the bytes, unless memory is wanting
abbrev pub Refuses : DocumentError → List ℕ → Type 0
Refuses (e.Html number at) bytes = IsRefused bytes number at
Refuses (e.Css number at) bytes = ⊥
Refuses (e.Ids number at) bytes = ⊥
Refuses e.Memory bytes = Unit {0}

-- these trees stand for the page, and with them it has this document, these roots, and what is written for its sheets
pub record Has (p : Page) (d : PageDocument) : Type 0 where
  pub trees : Tree many
  pub outcome : document_outcome p ≡ Ok trees
  pub document : d.document ≡ page_doc p trees
  pub roots : d.roots ≡ roots_of p
  pub styles : styles_outcome p ≡ Ok (map (λ s. s.items) d.styles.items)

abbrev pub Answers : Page → Result PageDocument DocumentError → Type 0
Answers p (Ok d) = Has p d
Answers p (Err (e.Html number at)) = document_outcome p ≡ Err (no_html (number, at))
Answers p (Err (e.Css number at)) = document_outcome p ≡ Err (no_css (number, at))
Answers p (Err (e.Ids number at)) = document_outcome p ≡ Err (no_id (number, at))
Answers p (Err e.Memory) = Unit {0}

-- these are the trees that the bytes are cleaned to, with what is answered for URLs, or they are refused
abbrev pub CleanOr : html.Answers → Result Clean DocumentError → List ℕ → Type 0
CleanOr a (Ok clean) bytes = clean_of a bytes ≡ Ok (trees clean)
CleanOr a (Err e) bytes = Refuses e bytes
