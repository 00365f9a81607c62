use Rattle.std.proofs.Common.{◌≡◌, ◌-◌, length}
use Rattle.es3_heap.specs.Objects.{object_at, proto_of}
use Rattle.es3_language.specs.Operators.{is_in_chain}
use Rattle.es3_operators.proofs.relations.is_above.Given as goal

abbrev pub invariant-loop-step : goal.invariant-loop-step
invariant-loop-step l = is_in_chain (length l.h.list) l.h (proto_of (object_at l.h l.fn.below)) l.fn.above ≡ is_in_chain (l._step-end - l._step) l.h l.next l.fn.above
