-- What the page of rewritten modules shows is what their sources mean.
use Rattle.std.specs.Prelude.{◌≡◌, ◌≢◌, ◌≤◌, ℕ, ◌+◌, ◌*◌, Bool, List, ◌++◌, map}
use Rattle.plans.specs.Plans.{count_of, kept_of}
use Rattle.es3_tree.specs.Tree as t
use Rattle.html_grammar.specs.Trees.{many, Tree}
use Rattle.doc_laws.specs.Reached.{Reached}
use Rattle.doc_views.specs.Clear.{IsClear}
use Rattle.doc_views.specs.Seen.{nodes_seen}
use Rattle.cajita_tree.specs.Tree as c
use Rattle.cajita_rewrite.specs.Rewrite.{program_of}
use Rattle.heap_rows.specs.Doing.{heard}
use Rattle.row_simulation.specs.RowLaw.{shown}
use Rattle.cajita_simulation.specs.Alike.{most_page_steps}
use Rattle.page_manifest.specs.Page.{Page}
use Rattle.page_runner.specs.declared.running.End.TheVariants.{Convert, Done, Steps}
use Rattle.page_meaning.specs.PageRuns.{programs_run, sources_run, programs_log, programs_end, programs_doc, sources_log, sources_end, sources_nodes}

-- the programs that stand for modules
abbrev pub programs_of : List (c.Tree c.program) → List (t.Tree t.program)
programs_of ms = map program_of ms

-- the direct run with n steps comes to its end, or stops for good, after c of them
pub record EndsAfter (p : Page) (ts : Tree many) (ms : List (c.Tree c.program)) (n c : ℕ) : Type 0 where
  pub ends : sources_end p ts ms n ≢ Steps
  pub taken : count_of (sources_run p ts ms n) + c ≡ n

-- the page with s steps of the interpreter shows what the direct run with n steps shows: what is told is the same, and so is the log, and the end; and where all was done, its document has the same nodes in each root,
-- and is one that is reached
pub record ShowsTheSame (p : Page) (ts : Tree many) (ms : List (c.Tree c.program)) (touching : Bool) (s n : ℕ) : Type 0 where
  pub told : (kept_of (programs_run p ts (programs_of ms) touching s)).told ≡ heard touching (shown (kept_of (sources_run p ts ms n)))
  pub log : programs_log p ts (programs_of ms) touching s ≡ sources_log p ts ms touching n
  pub end : programs_end p ts (programs_of ms) touching s ≡ sources_end p ts ms n
  pub nodes : sources_end p ts ms n ≡ Done → (root : ℕ) → nodes_seen (programs_doc p ts (programs_of ms) touching s) root ≡ sources_nodes p ts ms n root
  pub whole : sources_end p ts ms n ≡ Done → Reached (programs_doc p ts (programs_of ms) touching s) × IsClear (programs_doc p ts (programs_of ms) touching s)

-- a log is the front of another
pub record IsFront (part all : List ℕ) : Type 0 where
  pub rest : List ℕ
  pub is : all ≡ part ++ rest

-- the page shows what the sources of its modules mean, with a line for each touch or without
pub record SourcesMean (p : Page) (ts : Tree many) (ms : List (c.Tree c.program)) (touching : Bool) : Type 0 where
  -- where the direct run ends after c steps, the page shows the same with any number of steps from 64 times c on
  pub forward : (n c s : ℕ) → EndsAfter p ts ms n c → 64 * c ≤ s → 64 * c ≤ most_page_steps → ShowsTheSame p ts ms touching s n
  -- where the page ends, it shows what the direct run shows with every number of steps that is large enough
  pub backward : (s : ℕ) → s ≤ most_page_steps → programs_end p ts (programs_of ms) touching s ≢ Steps → (k : ℕ) × ((n : ℕ) → k ≤ n → ShowsTheSame p ts ms touching s n)
  -- wherever the page is cut off, its log is a front of the log of the direct run with every number of steps that is large enough
  pub cut : (s : ℕ) → s ≤ most_page_steps → (k : ℕ) × ((n : ℕ) → k ≤ n → IsFront (programs_log p ts (programs_of ms) touching s) (sources_log p ts ms touching n))
  -- the page never ends at a conversion that would run code of a text
  pub never_converts : (s : ℕ) → s ≤ most_page_steps → programs_end p ts (programs_of ms) touching s ≢ Convert
