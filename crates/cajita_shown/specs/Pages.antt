-- What a page of whole sources does: each is read as a module, and the deeds of the page are done, by computation.
use Rattle.std.specs.Prelude.{ℕ, List, [], ◌∷◌, Option, Some, None, map}
use Rattle.plans.specs.Plans.{Fault, over, stopped, out}
use Rattle.page_deeds.specs.Deeds.{Grants, Deed, to_load, to_call, to_tick, to_click, to_input}
use Rattle.cajita_tree.specs.Tree as c
use Rattle.rows.specs.Nodes.{no_rules}
use Rattle.cajita_meaning.specs.World.{undefined, Pairs}
use Rattle.cajita_meaning.specs.Direct.{Item}
use Rattle.cajita_page.specs.DirectPage.{Run, direct_page}
use Rattle.cajita_shown.specs.Shown.{with_source}

-- all that is told of a page that was done to its end, that was stopped by a fault, and that had too few steps; or a source is no module
pub data Page : Type 0 where
  done : List Item → Page
  faulted : Fault → List Item → Page
  spent : List Item → Page
  unread : Page

-- the names of grants, whose values don't count for reading
abbrev pub names : Grants → Pairs
names gs = map (λ g. (g.0, undefined)) gs

abbrev pub with_first : Deed (c.Tree c.program) → Option (List (Deed (c.Tree c.program))) → Option (List (Deed (c.Tree c.program)))
with_first d None = None
with_first d (Some ds) = Some (d ∷ ds)

abbrev pub all_read : List (Deed (List ℕ)) → Option (List (Deed (c.Tree c.program)))
all_read [] = Some []
all_read (to_load m source gs ∷ ds) = with_source (names gs) source (λ rule at. None) None (λ p. with_first (to_load m p gs) (all_read ds))
all_read (to_call k m key args ∷ ds) = with_first (to_call k m key args) (all_read ds)
all_read (to_tick k m ∷ ds) = with_first (to_tick k m) (all_read ds)
all_read (to_click k id root n ∷ ds) = with_first (to_click k id root n) (all_read ds)
all_read (to_input k id root n us ∷ ds) = with_first (to_input k id root n us) (all_read ds)

abbrev pub of_page : Run → Page
of_page (over r w z n) = done z
of_page (stopped f w z n) = faulted f z
of_page (out w z n) = spent z

abbrev pub of_deeds : Option (List (Deed (c.Tree c.program))) → ℕ → Page
of_deeds None n = unread
of_deeds (Some ds) n = of_page (direct_page no_rules (λ root. []) ds n)

-- a page of sources, with n steps
abbrev pub shown_page : List (Deed (List ℕ)) → ℕ → Page
shown_page ds n = of_deeds (all_read ds) n
