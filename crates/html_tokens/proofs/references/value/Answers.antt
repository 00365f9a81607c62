use Rattle.std.proofs.Common.{◌+◌, ◌*◌, min, ◌∙◌, ap, arith}
use Rattle.std.specs.Char.{digit_value}
use Rattle.html_tokens.proofs.references.value.Goals as goal
use Rattle.html_tokens.proofs.Values.{value_more}

pub loop-c-preserved : goal.loop-c-preserved
loop-c-preserved c = record {
  rest = value_more c.args.base c.loop-c.value c.min-value.result c.loop-c.c-index 0x110000 c.c-item.result c.args.digits.now c.requires.base.0 c.loop-c-test.true
      (c.min-value.ensures ∙ ap (λ x. min (c.loop-c.value * c.args.base + x) 0x110000) (c.digit.ensures.value ∙ ap digit_value c.c-item.is)) ∙ c.loop-c.invariant.rest;
  small = omega arith;
}
