-- What a row comes to among the objects of ES3 names live objects alone (ES3 8.6).
use Rattle.std.specs.Prelude.{ℕ, ◌<◌, All, length}
use Rattle.es3_heap.specs.Objects.{Objects}
use Rattle.es3_live.specs.Live.{IsLive, AreClosed, Later}
use Rattle.es3_live.specs.Keeps.{LiveReply}
use Rattle.rows.specs.Rows.{Native}
use Rattle.heap_rows.specs.Doing.{Done, Handler, Page, Came}

-- the built-in functions stand among the objects
abbrev pub IsThere : (Native → ℕ) → Objects → Native → Type 0
IsThere fs h f = fs f < length h.list

-- no object is gone, the objects are closed, and the answer is live
pub record LiveDone (h : Objects) (d : Done) : Type 0 where
  pub later : Later h d.heap
  pub closed : AreClosed d.heap
  pub answer : LiveReply (length d.heap.list) d.reply

-- what a page keeps beside its objects
pub record LivePage (n : ℕ) (g : Page) : Type 0 where
  pub cells : (c : ℕ) → IsLive n (g.cells c)
  pub queues : (m : ℕ) → All (IsLive n) (g.queues m)
  pub facets : (root : ℕ) → All (λ (o : ℕ). o < n) (g.facets root)
  pub handlers : (root : ℕ) → All (λ (x : Handler). IsLive n x.does) (g.handlers root)

pub record LiveCame (h : Objects) (came : Came) : Type 0 where
  pub done : LiveDone h came.done
  pub page : LivePage (length came.done.heap.list) came.page
