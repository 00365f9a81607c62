use Rattle.std.proofs.Common.{◌+◌, ◌*◌}
use Rattle.es3_convert.proofs.Digits.{one_more, too_large}
use Rattle.es3_convert.proofs.number.value.Goals as goal

pub returns-then-value-ge-TOO_LARGE : goal.returns-then-value-ge-TOO_LARGE
returns-then-value-ge-TOO_LARGE c =
    too_large c.args.radix (c.loop-unit.unit-index + 1) (c.loop-unit.value * c.args.radix + c.digit.result) c.args.digits.now c.requires.0
    (one_more c.args.radix c.loop-unit.unit-index c.loop-unit.value c.digit.result c.args.digits.now c.loop-unit-test.true c.loop-unit.invariant.0 c.digit.ensures.value)
    c.if-value-ge-TOO_LARGE.true

pub loop-unit-preserved : goal.loop-unit-preserved
loop-unit-preserved c = (
  one_more c.args.radix c.loop-unit.unit-index c.loop-unit.value c.digit.result c.args.digits.now c.loop-unit-test.true c.loop-unit.invariant.0 c.digit.ensures.value,
  c.if-value-ge-TOO_LARGE.false,
)
