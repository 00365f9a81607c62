-- What is said of a page that was bound to its document.
use Rattle.std.specs.Prelude.{◌≡◌, ℕ, List, Ok}
use Rattle.html_grammar.specs.Trees.{many, Tree}
use Rattle.doc_laws.specs.Reached.{IsGrantable}
use Rattle.page_manifest.specs.Page.{Page}
use Rattle.page_roots.specs.Roots.{granted_roots}
use Rattle.page_binding.specs.Bound.{bind}

-- what is found are the granted roots, and a document may be made with them: none stands twice or inside another
pub record IsBound (p : Page) (ts : Tree many) (ids : List (List ℕ)) : Type 0 where
  pub roots : ids ≡ granted_roots p
  pub grantable : IsGrantable ids ts

abbrev pub BoundIsGrantable : Type 0
BoundIsGrantable = (p : Page) (ts : Tree many) (ids : List (List ℕ)) → bind p ts ≡ Ok ids → IsBound p ts ids
