use Rattle.std.proofs.Common.{◌∙◌}
use Rattle.caja_num.proofs.Wrapping.{shift_left_bits}
use Rattle.caja_num.proofs.Whole.shl.Goals as goal

pub returns : goal.returns
returns c =
    c.from_bits.ensures
    ∙ shift_left_bits c.args.self c.args.o _ _ c.bits.ensures c.bits.type_inv c.shift_count.ensures.value c.shift_count.ensures.below
