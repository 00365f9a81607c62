use Rattle.std.proofs.Common.{◌≡◌, drop}
use Rattle.es3_language.specs.Store.{with_params}
use Rattle.es3_moves.specs.Code.{names_of}
use Rattle.es3_calls.proofs.activation.bind.Given as goal

abbrev pub invariant-loop-i : goal.invariant-loop-i
invariant-loop-i l = with_params (names_of (drop l.i l.params)) (drop l.i l.args) l.names ≡ with_params (names_of l.params) l.args l.fn.names
