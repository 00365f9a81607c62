-- What a run leaves: a store that names live objects alone, from which no object is gone, and what natives keep still fits it.
use Rattle.std.specs.Prelude.{length}
use Rattle.plans.specs.Plans.{over, stopped, out}
use Rattle.es3_heap.specs.Objects.{Objects}
use Rattle.es3_language.specs.Store.{Store}
use Rattle.es3_language.specs.Tasks.{Run}
use Rattle.es3_live.specs.Live.{Later}
use Rattle.es3_live.specs.Runs.{LiveStore, LiveEnding}

-- a store that objects h have become, and what natives keep beside it
pub record KeptStore {S : Type 0} (fits : S → Objects → Type 0) (h : Objects) (s : Store) (z : S) : Type 0 where
  pub store : LiveStore s
  pub later : Later h s.heap
  pub kept : fits z s.heap

-- a run that began with objects h: how it ends names live objects alone too
abbrev pub KeptRun : {S : Type 0} → (S → Objects → Type 0) → Objects → Run S → Type 0
KeptRun fits h (over e s z n) = LiveEnding (length s.heap.list) e × KeptStore fits h s z
KeptRun fits h (stopped f s z n) = KeptStore fits h s z
KeptRun fits h (out s z n) = KeptStore fits h s z

-- what is kept fits any objects
abbrev pub AlwaysFits : {S : Type 0} → S → Objects → Type 0
AlwaysFits z h = Unit {0}
