-- How the page of rewritten modules ends, by how the page of their sources ends: each end and its cause, in both meanings.
use Rattle.std.specs.Prelude.{◌≡◌, ◌≢◌, ◌≤◌, ℕ, ◌*◌, Bool, List}
use Rattle.html_grammar.specs.Trees.{many, Tree}
use Rattle.cajita_tree.specs.Tree as c
use Rattle.page_manifest.specs.Page.{Page}
use Rattle.page_runner.specs.declared.running.End.{End}
use Rattle.page_runner.specs.declared.running.End.TheVariants.{Convert, Steps}
use Rattle.page_meaning.specs.PageRuns.{programs_end, sources_end}
use Rattle.page_meaning.specs.Means.{programs_of, ShowsTheSame}

-- the direct run ends so with every number of steps that is large enough
abbrev pub EndsBy : Page → Tree many → List (c.Tree c.program) → End → Type 0
EndsBy p ts ms e = (k : ℕ) × ((n : ℕ) → k ≤ n → sources_end p ts ms n ≡ e)

-- the page with the steps for n direct ones ends for these causes
pub record Causes (p : Page) (ts : Tree many) (ms : List (c.Tree c.program)) (touching : Bool) (n : ℕ) : Type 0 where
  -- where the direct run ends within n steps, the page shows the same
  pub complete : sources_end p ts ms n ≢ Steps → ShowsTheSame p ts ms touching (64 * n) n
  -- the page ends by itself, or by a fault of numbers or depth, only where the direct run does
  pub ended : (e : End) → e ≢ Steps → programs_end p ts (programs_of ms) touching (64 * n) ≡ e → EndsBy p ts ms e
  -- it wants a step only where the direct run takes more than n
  pub steps : programs_end p ts (programs_of ms) touching (64 * n) ≡ Steps → sources_end p ts ms n ≡ Steps
  -- and never ends at a conversion that would run code of a text
  pub no_conversion : programs_end p ts (programs_of ms) touching (64 * n) ≢ Convert
