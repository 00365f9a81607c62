-- What is promised of the manifest of a page.
use Rattle.std.specs.Prelude.{◌≡◌, ◌≤◌, ℕ, List, Ok, All, true, false, length}
use Rattle.url_rule.specs.Table.{Row}
use Rattle.page_cajole.specs.Pages.{IsCajoledPage}
use Rattle.page_styles.specs.Sheets.{IsStyle}
use Rattle.page_documents.specs.Html.{IsHtml}
use Rattle.page_documents.specs.Documents.{page_urls, sheet_urls, IsOutcome}
use Rattle.page_manifest.specs.Page.{Page}
use Rattle.page_manifest.specs.Read.{page_of}
use Rattle.page_manifest.specs.Valid.{IsValid}
use Rattle.page_meaning.specs.Texts.{IsText}
use Rattle.page_meaning.specs.Meant.{IsPage, IsMeant}
use Rattle.page_agreement.specs.Isolated.{IsIsolated}

-- the longest manifest of `page`, in bytes
abbrev pub longest_manifest : ℕ
longest_manifest = 4194304

-- of a page: its HTML is cleaned to what is kept of the trees that it spells, or refused just where the grammar refuses it; so is each of its sheets; and the page has that document just where none
-- is refused and its ids are found there
pub record IsDocumented (p : Page) : Type 0 where
  pub html : IsHtml (page_urls p) p.html
  pub styles : All (IsStyle (sheet_urls p)) p.styles
  pub outcome : IsOutcome p

-- for an embedder whose rule has this table, of a page of modules in Cajita: no fault of a manifest stands in it, and it is meant, over its document
pub record IsManifest (rule : List Row) (input : List ℕ) : Type 0 where
  pub valid : (p : Page) → length input ≤ longest_manifest → page_of rule false input ≡ Ok p → IsPage p
  pub documented : (p : Page) → page_of rule false input ≡ Ok p → IsDocumented p
  pub meant : (p : Page) → length input ≤ longest_manifest → page_of rule false input ≡ Ok p → IsMeant p

-- of a page of texts that run as they stand: no fault of a manifest stands in it, each text runs or is refused just where it does, and the page is accepted just where each is
pub record IsOfTexts (rule : List Row) (input : List ℕ) : Type 0 where
  pub valid : (p : Page) → page_of rule true input ≡ Ok p → IsValid p
  pub documented : (p : Page) → page_of rule true input ≡ Ok p → IsDocumented p
  pub texts : (p : Page) → page_of rule true input ≡ Ok p → All (λ m. IsText m.source) p.modules
  pub accepted : (p : Page) → page_of rule true input ≡ Ok p → IsCajoledPage p

-- of a page of modules in Cajita: each page that agrees with it on a group of its modules gives the group the same lines, the same texts, and the same nodes and printed text of each of its roots
abbrev pub AreIsolated : List Row → List ℕ → Type 0
AreIsolated rule input = (p : Page) → length input ≤ longest_manifest → page_of rule false input ≡ Ok p → IsIsolated p
