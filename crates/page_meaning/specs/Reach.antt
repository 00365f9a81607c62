-- What the log of a page tells of touches lies in reach: a module touches what it was given and what it made, and nothing else.
use Rattle.std.specs.Prelude.{◌≡◌, ◌≤◌, ℕ, true, List, ◌∷◌, ◌++◌}
use Rattle.plans.specs.Plans.{kept_of}
use Rattle.es3_objects.specs.declared.value.Tag.{Tag}
use Rattle.rows.specs.Rows.{Touch}
use Rattle.heap_rows.specs.Doing.{Told, touched}
use Rattle.html_grammar.specs.Trees.{many, Tree}
use Rattle.cajita_tree.specs.Tree as c
use Rattle.cajita_meaning.specs.World.{Name}
use Rattle.cajita_meaning.specs.Direct.{Item}
use Rattle.cajita_meaning.specs.Direct as item
use Rattle.cajita_laws.specs.Reach.{have, IsIn}
use Rattle.cajita_page.specs.Promises.{had_at_first, PageReaches}
use Rattle.row_simulation.specs.Correspond.{tag_of_name}
use Rattle.page_manifest.specs.Page.{Page}
use Rattle.cajita_simulation.specs.Alike.{most_page_steps}
use Rattle.page_meaning.specs.PageRuns.{sources_run, programs_run}
use Rattle.page_meaning.specs.Means.{programs_of}

-- the direct run, with every number of steps that is large enough, has this very touch, of an object that the module had before it
pub record IsTouchInReach (z : List Item) (m : ℕ) (op : Touch) (g : Tag) (key : List (List ℕ)) : Type 0 where
  pub before : List Item
  pub behind : List Item
  pub name : Name
  pub named : tag_of_name name ≡ g
  pub there : z ≡ before ++ item.touched m op name key ∷ behind
  pub had : IsIn name (have had_at_first before m)

pub record Reaches (p : Page) (ts : Tree many) (ms : List (c.Tree c.program)) : Type 0 where
  -- of the sources, with any number of steps: each item lies in what its module had before it, and each name is new
  pub sources : (n : ℕ) → PageReaches (kept_of (sources_run p ts ms n))
  -- of the programs, with s steps: each touch that is told, wherever the page is cut, is such a touch
  pub touches : (s : ℕ) → s ≤ most_page_steps → (a b : List Told) (m : ℕ) (op : Touch) (g : Tag) (key : List (List ℕ)) → (kept_of (programs_run p ts (programs_of ms) true s)).told ≡ a ++ touched m op g key ∷ b
      → (k : ℕ) × ((n : ℕ) → k ≤ n → IsTouchInReach (kept_of (sources_run p ts ms n)) m op g key)
