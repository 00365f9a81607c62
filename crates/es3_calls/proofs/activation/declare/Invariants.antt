use Rattle.std.proofs.Common.{◌≡◌, drop}
use Rattle.es3_language.specs.Store.{with_vars}
use Rattle.es3_moves.specs.Code.{names_of}
use Rattle.es3_calls.proofs.activation.declare.Given as goal

abbrev pub invariant-loop-name : goal.invariant-loop-name
invariant-loop-name l = with_vars (names_of (drop l.name-index l.vars)) l.names ≡ with_vars (names_of l.vars) l.fn.names
