-- A page of programs does in the interpreter what the page of the modules that they stand for does directly.
use Rattle.std.specs.Prelude.{◌≡◌, ℕ, ◌+◌, ◌*◌, ◌≤◌, Bool, List}
use Rattle.plans.specs.Plans.{over, stopped, out, count_of, kept_of}
use Rattle.matching.specs.Sentences.{IsFinished}
use Rattle.html_kept.specs.Table.{Answers}
use Rattle.doc_nodes.specs.Rows.{Doc}
use Rattle.doc_laws.specs.Reached.{Reached}
use Rattle.doc_views.specs.Clear.{IsClear}
use Rattle.doc_views.specs.Seen.{nodes_seen}
use Rattle.rows.specs.Nodes.{Rules}
use Rattle.cajita_page.specs.DirectPage as direct
use Rattle.cajita_page.specs.DirectPage.{direct_page}
use Rattle.cajita_meaning.specs.World.{World}
use Rattle.cajita_meaning.specs.Direct.{Item}
use Rattle.heap_rows.specs.Doing.{Told, heard}
use Rattle.heap_rows.specs.Opening.{runtime_id}
use Rattle.row_simulation.specs.RowLaw.{shown}
use Rattle.page_natives.specs.Natives.{Kept, new_kept}
use Rattle.module_loader.specs.Turns.{page_lent, page_store}
use Rattle.page_runner.specs.Page as es3
use Rattle.page_runner.specs.Page.{es3_page}
use Rattle.cajita_simulation.specs.Alike.{IsPrefix, GuestFault, most_page_steps}
use Rattle.page_simulation.specs.Pages.{program_deeds}

-- what the log is to tell of what is told directly
abbrev pub told_of : Bool → List Item → List Told
told_of touching z = heard touching (shown z)

-- the document has the nodes of the world, root by root
abbrev pub SameNodes : World → Kept → Type 0
SameNodes w y = (root : ℕ) → nodes_seen y.dom.doc root ≡ w.nodes root

-- both did all their deeds, and then each root has the same nodes, in a document that is reached, or stopped by the same fault, which is no conversion; and both told the same
abbrev pub EndAlike : Bool → direct.Run → es3.Run → Type 0
EndAlike touching (over r w z n) (over r' s y n') = (told_of touching z ≡ y.told) × SameNodes w y × Reached y.dom.doc × IsClear y.dom.doc
EndAlike touching (stopped f w z n) (stopped g s y n') = (f ≡ g) × GuestFault f × (told_of touching z ≡ y.told)
EndAlike touching r q = ⊥

-- not ended by a conversion that would run code of a text
abbrev pub ConvertsNothing : es3.Run → Type 0
ConvertsNothing (over r s y n) = Unit {0}
ConvertsNothing (stopped f s y n) = GuestFault f
ConvertsNothing (out s y n) = Unit {0}

-- the two pages, with n steps of the one and k of the other: the one begins with the nodes of the document's roots, the other with the document itself and the rule for URLs in it
abbrev pub source_page : Rules → Doc → List direct.Deed → ℕ → direct.Run
source_page rules doc ds n = direct_page rules (nodes_seen doc) ds n

abbrev pub program_page : ℕ → ℕ → Doc → Answers → Bool → List direct.Deed → ℕ → es3.Run
program_page modules cells doc a touching ds k = es3_page modules (program_deeds ds) (page_store modules cells doc) (new_kept runtime_id touching (page_lent modules cells doc) a) k

-- four sentences on a page of so many modules, so many cells and a document
pub record PageCorrect (rules : Rules) (modules cells : ℕ) (doc : Doc) (a : Answers) (touching : Bool) (ds : List direct.Deed) : Type 0 where
  -- where the page of the sources, with n steps, comes to an end after c of them, that of the programs comes to a like end with every number of steps that is 64 times c or more
  pub forward : (n c k : ℕ) → IsFinished (source_page rules doc ds n) → count_of (source_page rules doc ds n) + c ≡ n → 64 * c ≤ k → 64 * c ≤ most_page_steps
      → EndAlike touching (source_page rules doc ds n) (program_page modules cells doc a touching ds k) × (k ≤ count_of (program_page modules cells doc a touching ds k) + 64 * c)
  -- where the page of the programs comes to an end with k steps, that of the sources comes to a like end with every number of steps that is large enough
  pub backward : (k : ℕ) → k ≤ most_page_steps → IsFinished (program_page modules cells doc a touching ds k)
      → (j : ℕ) × ((n : ℕ) → j ≤ n → EndAlike touching (source_page rules doc ds n) (program_page modules cells doc a touching ds k))
  -- what was told by then with k steps, however the page was cut, is the beginning of what the sources tell with every number of steps that is large enough
  pub cut : (k : ℕ) → k ≤ most_page_steps → (j : ℕ) × ((n : ℕ) → j ≤ n → IsPrefix (kept_of (program_page modules cells doc a touching ds k)).told (told_of touching (kept_of (source_page rules doc ds n))))
  -- the page never ends by a conversion that would run code
  pub never_converts : (k : ℕ) → k ≤ most_page_steps → ConvertsNothing (program_page modules cells doc a touching ds k)
