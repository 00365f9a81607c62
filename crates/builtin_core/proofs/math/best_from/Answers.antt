use Rattle.std.proofs.Common.{arith}
use Rattle.std.proofs.lemmas.Result.{err_from_is_err_and}
use Rattle.builtin_core.proofs.Numbers.{best_from-fault}
use Rattle.builtin_core.proofs.math.best_from.Goals as goal

pub returns-in_err-number : goal.returns-in_err-number
returns-in_err-number c =
    let p = err_from_is_err_and c.from_residual.result c.from_residual.ensures.1 in
    rw (p.1, p.2, ← c.loop-value.invariant) (best_from-fault c.args.wanted c.loop-value.best c.args.values.now c.loop-value.value-index c.args.h.now _ _ (omega arith) c.value-item.is c.in_err-number.ensures)
