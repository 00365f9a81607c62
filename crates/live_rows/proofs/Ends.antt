-- What a row is done with: the objects have grown, and what is answered was live already.
use Rattle.std.proofs.Common.{Bool, true, false, List, length, cond}
use Rattle.plans.specs.Plans.{Fault}
use Rattle.es3_objects.specs.declared.value.Value.{Value}
use Rattle.es3_heap.specs.Objects.{Objects}
use Rattle.es3_language.specs.Natives.{stop_reply}
use Rattle.es3_live.specs.Live.{IsLive, AreClosed}
use Rattle.es3_live.proofs.Growth.{live_more, later_refl}
use Rattle.es3_live.proofs.Writing.{Grown}
use Rattle.heap_rows.specs.Doing.{Done, Told, gives, too_long}
use Rattle.live_rows.specs.Live.{LiveDone}

pub gives_live : (x : Value) (h g : Objects) (y : List Told) → Grown h g → IsLive (length h.list) x → LiveDone h (gives x g y)
gives_live x h g y grown live = record { later = grown.later; closed = grown.closed; answer = live_more x grown.later.more live }

pub stops_live : (f : Fault) (h : Objects) (y : List Told) → AreClosed h → LiveDone h (record { reply = stop_reply f; heap = h; items = y })
stops_live f h y closed = record { later = later_refl h; closed = closed; answer = tt }

pub unless_long : (h : Objects) (b : Bool) (d : Done) (y : List Told) → AreClosed h → LiveDone h d → LiveDone h (cond b d (too_long h y))
unless_long h true d y closed live = live
unless_long h false d y closed live = record { later = later_refl h; closed = closed; answer = tt }
