use Rattle.std.proofs.Common.{sym, ◌∙◌, arith}
use Rattle.builtin_string.proofs.Standing.{last_step, last_found}
use Rattle.builtin_string.proofs.places.last_place.Goals as goal

pub returns-then-begins_at-clause-is : goal.returns-then-begins_at-clause-is
returns-then-begins_at-clause-is c =
    sym (last_found c.args.part.now c.args.text.now c.loop-place.place c.loop-place-test.true (omega arith) (sym c.begins_at.ensures ∙ c.if-begins_at.true) c.loop-place.invariant)

pub loop-place-preserved : goal.loop-place-preserved
loop-place-preserved c =
    λ le. last_step c.args.part.now c.args.text.now c.loop-place.place _ c.loop-place-test.true (omega arith) (sym c.begins_at.ensures ∙ c.if-begins_at.false) c.loop-place.invariant
