use Rattle.std.proofs.Common.{◌+◌, ◌-◌, cond, length, find, Some, ap, sym, ◌∙◌, arith}
use Rattle.std.specs.List.{range_with_len}
use Rattle.caja_units.specs.Units.{stands_at}
use Rattle.caja_units.proofs.Places.{find_range_more}
use Rattle.caja_units.proofs.compare.first_place.Goals as goal

pub loop-place-preserved : goal.loop-place-preserved
loop-place-preserved c =
    let p = stands_at c.args.text.now c.args.part.now in
    let i = c.loop-place.place in
    let n = length c.args.text.now + 1 in
    sym (find_range_more p i n (omega arith) ∙ ap (λ t. cond t (Some i) (find p (range_with_len (i + 1) (n - (i + 1))))) (sym c.is_at.ensures ∙ c.if-is_at.false)) ∙ c.loop-place.invariant
