-- What is promised of an accepted page: whichever accepted page agrees with it on a group gives the group the same lines and texts, and leaves its roots with the same nodes, which are printed alike.
use Rattle.std.specs.Prelude.{◌≡◌, ◌≤◌, ℕ, Bool, List, Ok, map, slice_get, Contains}
use Rattle.plans.specs.Plans.{kept_of}
use Rattle.html_grammar.specs.Trees.{many, Tree}
use Rattle.rows.specs.Document.{Node}
use Rattle.root_texts.specs.Texts.{text_at, root_text}
use Rattle.es3_tree.specs.Tree as t
use Rattle.cajita_tree.specs.Tree as c
use Rattle.heap_rows.specs.Doing.{heard}
use Rattle.row_simulation.specs.RowLaw.{shown}
use Rattle.cajita_simulation.specs.Alike.{most_page_steps}
use Rattle.page_runner.specs.declared.running.End.TheVariants.{Done}
use Rattle.page_manifest.specs.Page.{Page}
use Rattle.page_roots.specs.Roots.{roots_of, number_in}
use Rattle.page_documents.specs.Documents.{IsDocument}
use Rattle.page_cajole.specs.Pages.{Runnable, page_outcome}
use Rattle.page_meaning.specs.PageRuns.{programs_run, programs_end, programs_doc, sources_run, sources_end, sources_nodes}
use Rattle.page_meaning.specs.Meant.{SpellModules, IsPage}
use Rattle.page_agreement.specs.Agree.{IsRootOf, root_nodes, AgreeOn}
use Rattle.page_agreement.specs.Lines.{group_log}

-- the programs that run for modules
abbrev pub programs_in : List Runnable → List (t.Tree t.program)
programs_in rs = map (λ (r : Runnable). r.program) rs

-- the lines of a group in the log that is written, with s steps of the interpreter
abbrev pub written_lines : Page → Tree many → List Runnable → Bool → ℕ → List ℕ → List ℕ
written_lines p ts rs touching s g = group_log p g (kept_of (programs_run p ts (programs_in rs) touching s)).told

-- its lines in the log of the direct meaning, with n steps
abbrev pub direct_lines : Page → Tree many → List (c.Tree c.program) → Bool → ℕ → List ℕ → List ℕ
direct_lines p ts ms touching n g = group_log p g (heard touching (shown (kept_of (sources_run p ts ms n))))

-- the nodes of the root with an id: in the document that is written, and in the direct meaning
abbrev pub written_nodes : Page → Tree many → List Runnable → Bool → ℕ → List ℕ → List Node
written_nodes p ts rs touching s id = root_nodes p (programs_doc p ts (programs_in rs) touching s) id

abbrev pub direct_nodes : Page → Tree many → List (c.Tree c.program) → ℕ → List ℕ → List Node
direct_nodes p ts ms n id = sources_nodes p ts ms n (number_in (roots_of p) id)

-- what is written of it
abbrev pub written_text : Page → Tree many → List Runnable → Bool → ℕ → List ℕ → List ℕ
written_text p ts rs touching s id = root_text (programs_doc p ts (programs_in rs) touching s) (number_in (roots_of p) id)

-- the texts do all deeds of the page, and end by nothing else: no fault, no want of a step
abbrev pub TextsDone : Page → Tree many → List Runnable → Bool → ℕ → Type 0
TextsDone p ts rs touching s = programs_end p ts (programs_in rs) touching s ≡ Done

-- so do the sources, directly
abbrev pub SourcesDone : Page → Tree many → List (c.Tree c.program) → ℕ → Type 0
SourcesDone p ts ms n = sources_end p ts ms n ≡ Done

-- the same of a group in the texts of p and in the sources of q, where both pages do all their deeds, each with its own number of steps: the lines, the nodes of each of its roots, and what is written of it
pub record SameByMeaning (g : List ℕ) (p : Page) (ts : Tree many) (q : Page) (us : Tree many) (rs : List Runnable) (ms : List (c.Tree c.program)) (touching : Bool) (s n : ℕ) : Type 0 where
  pub lines : written_lines p ts rs touching s g ≡ direct_lines q us ms touching n g
  pub nodes : (id : List ℕ) → IsRootOf p g id → written_nodes p ts rs touching s id ≡ direct_nodes q us ms n id
  pub printed : (id : List ℕ) → IsRootOf p g id → written_text p ts rs touching s id ≡ text_at (direct_nodes q us ms n id) 0

-- in the texts of both
pub record SameWritten (g : List ℕ) (p : Page) (ts : Tree many) (q : Page) (us : Tree many) (rs ss : List Runnable) (touching : Bool) (s k : ℕ) : Type 0 where
  pub lines : written_lines p ts rs touching s g ≡ written_lines q us ss touching k g
  pub nodes : (id : List ℕ) → IsRootOf p g id → written_nodes p ts rs touching s id ≡ written_nodes q us ss touching k id
  pub printed : (id : List ℕ) → IsRootOf p g id → written_text p ts rs touching s id ≡ written_text q us ss touching k id

-- in the sources of both
pub record SameMeant (g : List ℕ) (p : Page) (ts : Tree many) (q : Page) (us : Tree many) (ls ms : List (c.Tree c.program)) (touching : Bool) (n k : ℕ) : Type 0 where
  pub lines : direct_lines p ts ls touching n g ≡ direct_lines q us ms touching k g
  pub nodes : (id : List ℕ) → IsRootOf p g id → direct_nodes p ts ls n id ≡ direct_nodes q us ms k id

-- what two accepted pages give a group. Of the modules of each, rs and ss are what runs, ls and ms what the sources spell
pub record SameFor (g : List ℕ) (p : Page) (ts : Tree many) (q : Page) (us : Tree many) (rs ss : List Runnable) : Type 0 where
  -- what is written for the one page is what the sources of the other mean
  pub meant : (ms : List (c.Tree c.program)) → SpellModules q.modules ms → (touching : Bool) (s n : ℕ) → s ≤ most_page_steps → TextsDone p ts rs touching s → SourcesDone q us ms n → SameByMeaning g p ts q us rs ms touching s n
  -- and so it is of the two that are written, and of the two that the sources mean
  pub written : (touching : Bool) (s k : ℕ) → s ≤ most_page_steps → k ≤ most_page_steps → TextsDone p ts rs touching s → TextsDone q us ss touching k → SameWritten g p ts q us rs ss touching s k
  pub direct : (ls ms : List (c.Tree c.program)) → SpellModules p.modules ls → SpellModules q.modules ms → (touching : Bool) (n k : ℕ) → SourcesDone p ts ls n → SourcesDone q us ms k → SameMeant g p ts q us ls ms touching n k
  -- what runs for each module of the group is the same: its text, and the program that this spells
  pub texts : (i : ℕ) → Contains g i → slice_get rs i ≡ slice_get ss i

-- it is so of every accepted page that agrees with this one on a group, over the documents of both
abbrev pub IsIsolated : Page → Type 0
IsIsolated p = (ts : Tree many) → IsDocument p ts → (q : Page) (us : Tree many) → IsDocument q us → (g : List ℕ) → AgreeOn p ts q us g → IsPage q → (rs ss : List Runnable) → page_outcome p ≡ Ok rs → page_outcome q ≡ Ok ss → SameFor g p ts q us rs ss
