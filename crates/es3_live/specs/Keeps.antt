-- Natives that name live objects alone: what they are asked to keep, and what they promise.
use Rattle.std.specs.Prelude.{ℕ, List, All, length}
use Rattle.es3_objects.specs.declared.value.Value.{Value}
use Rattle.es3_heap.specs.Objects.{Objects}
use Rattle.es3_language.specs.Natives.{Touched, Reply, value_reply, throw_reply, invoke_reply, stop_reply, Turn, Table}
use Rattle.es3_live.specs.Live.{IsLive, AreClosed, Later}

-- what a native answers; nothing is said of what is kept beside the objects after a fault
abbrev pub LiveReply : ℕ → Reply → Type 0
LiveReply n (value_reply v) = IsLive n v
LiveReply n (throw_reply v) = IsLive n v
LiveReply n (invoke_reply recorded f this vs) = IsLive n f × IsLive n this × All (IsLive n) vs
LiveReply n (stop_reply f) = Unit {0}

-- after a call of a native: no object is gone, the objects are closed, the answer is live, and what is kept fits the objects
pub record AfterCall {S : Type 0} (fits : S → Objects → Type 0) (h : Objects) (turn : Turn S) : Type 0 where
  pub later : Later h turn.heap
  pub closed : AreClosed turn.heap
  pub answer : LiveReply (length turn.heap.list) turn.reply
  pub kept : fits turn.state turn.heap

-- what natives keep fits a store's objects, and goes on fitting them: in a call with live values, at a touch, and whatever a text does to the objects
pub record KeepsLive {S : Type 0} (fits : S → Objects → Type 0) (T : Table S) : Type 0 where
  pub called : (which by : ℕ) (this : Value) (vs : List Value) (h : Objects) (z : S) → fits z h → AreClosed h → IsLive (length h.list) this → All (IsLive (length h.list)) vs
      → AfterCall fits h (T.answer which by this vs h z)
  pub touched : (i : Touched) (h : Objects) (z : S) → fits z h → fits (T.touch i z) h
  pub later : (h h' : Objects) (z : S) → fits z h → Later h h' → fits z h'
