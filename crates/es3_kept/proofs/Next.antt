-- A store that names live objects alone, and from which none of some objects is gone.
use Rattle.es3_heap.specs.Objects.{Objects}
use Rattle.es3_language.specs.Store.{Store}
use Rattle.es3_live.specs.Live.{Later}
use Rattle.es3_live.specs.Runs.{LiveStore}
use Rattle.es3_live.proofs.Growth.{later_refl, later_trans}

-- a store that objects h have become
pub record Next (h : Objects) (s : Store) : Type 0 where
  pub store : LiveStore s
  pub later : Later h s.heap

pub same_store : (s : Store) → LiveStore s → Next s.heap s
same_store s l = record { store = l; later = later_refl s.heap }

pub next_earlier : {h h' : Objects} (s : Store) → Later h h' → Next h' s → Next h s
next_earlier s later n = record { store = n.store; later = later_trans later n.later }
