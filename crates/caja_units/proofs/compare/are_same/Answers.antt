use Rattle.std.proofs.Common.{sym, arith}
use Rattle.caja_units.proofs.Compared.{same_units-from_reads}
use Rattle.caja_units.proofs.compare.are_same.Goals as goal

pub returns : goal.returns
returns c =
    sym (same_units-from_reads c.args.one.now c.args.other.now (omega arith) (λ k lt. c.loop-i.invariant k (omega arith)))
