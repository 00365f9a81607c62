-- What an accepted page means: the program that stands for each of its modules, by its dialect, its source and the names of its grants alone, and what they show together.
use Rattle.std.specs.Prelude.{◌≡◌, ◌≤◌, ℕ, ◌*◌, Bool, false, List, [], ◌∷◌, Ok, All, map}
use Rattle.es3_printed.specs.Tokens.{printed}
use Rattle.es3_printed.specs.Back.{IsReadBack}
use Rattle.html_grammar.specs.Trees.{many, Tree}
use Rattle.cajita_tree.specs.Tree as c
use Rattle.cajita_rewrite.specs.Rewrite.{program_of}
use Rattle.cajita_simulation.specs.Alike.{most_page_steps}
use Rattle.page_cajole.specs.Pages.{Runnable, granted_names, page_outcome, IsCajoledPage}
use Rattle.page_manifest.specs.Page.{Module, Page, as_it_stands}
use Rattle.page_manifest.specs.Valid.{IsValid, FewArguments}
use Rattle.page_documents.specs.Documents.{page_doc, IsDocument}
use Rattle.page_ids.specs.Ids.{IdsAreNodes}
use Rattle.page_meaning.specs.Means.{SourcesMean}
use Rattle.page_meaning.specs.Reach.{Reaches}
use Rattle.page_meaning.specs.Causes.{Causes}
use Rattle.page_meaning.specs.Sources.{InDialect, SpellsModule, IsSource}

-- what runs for a module: the program that stands for it, and its printed text
abbrev pub runnable_of : c.Tree c.program → Runnable
runnable_of m = record { text = printed (program_of m); program = program_of m }

-- each module with what its source spells
abbrev pub SpellModules : List Module → List (c.Tree c.program) → Type 0
SpellModules [] [] = Unit {0}
SpellModules (m ∷ ms) (s ∷ ss) = InDialect m.language (λ d. SpellsModule d (granted_names m) m.source s) × SpellModules ms ss
SpellModules ms ss = ⊥

-- what runs for a page: programs that stand for the modules which its sources spell, and their printed texts, which are read as those very programs; and what they show is what
-- those modules mean
pub record PageMeant (p : Page) (ts : Tree many) (rs : List Runnable) : Type 0 where
  pub sources : List (c.Tree c.program)
  pub spelled : SpellModules p.modules sources
  pub runs : rs ≡ map runnable_of sources
  pub back : All (λ m. IsReadBack (program_of m)) sources
  pub means : (touching : Bool) → SourcesMean p ts sources touching
  pub causes : (touching : Bool) (n : ℕ) → 64 * n ≤ most_page_steps → Causes p ts sources touching n
  pub reaches : Reaches p ts sources

-- a page in which no fault of a manifest stands, and whose modules are in a dialect
pub record IsPage (p : Page) : Type 0 where
  pub valid : IsValid p
  pub cajoled : All (λ m. as_it_stands m.language ≡ false) p.modules
  pub few : FewArguments p.events

-- of such a page: each module becomes what it is by its dialect, its source and the names of its grants alone; the page is accepted just where each is, else the first that is refused is
-- told; the ids that it speaks of name nodes of its document; and an accepted page is meant
pub record IsMeant (p : Page) : Type 0 where
  pub sources : All (λ m. InDialect m.language (λ d. IsSource d (granted_names m) m.source)) p.modules
  pub cajoled : IsCajoledPage p
  pub named : (ts : Tree many) → IsDocument p ts → IdsAreNodes p (page_doc p ts)
  pub where_accepted : (ts : Tree many) → IsDocument p ts → (rs : List Runnable) → page_outcome p ≡ Ok rs → PageMeant p ts rs
