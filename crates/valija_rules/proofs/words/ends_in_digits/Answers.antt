use Rattle.std.proofs.Common.{◌+◌, ◌&&◌, drop, sym, ap, ◌∙◌, arith}
use Rattle.std.specs.List.{list_all}
use Rattle.es3_tokens.specs.Characters.{is_digit}
use Rattle.valija_rules.proofs.ShortNames.{digit_on}
use Rattle.valija_rules.proofs.words.ends_in_digits.Goals as goal

pub returns-then-not-is_digit : goal.returns-then-not-is_digit
returns-then-not-is_digit c =
    let us = c.args.name.now in
    let i = c.loop-i.i in
    let step = digit_on us i c.in-Some.unit c.at.result c.is_digit.result (omega arith) c.at.ensures.is c.in-Some.is c.is_digit.ensures in
    sym (sym c.loop-i.invariant ∙ step ∙ ap (λ r. r && list_all is_digit (drop (i + 1) us)) c.if-not-is_digit.true)

pub loop-i-preserved : goal.loop-i-preserved
loop-i-preserved c =
    let us = c.args.name.now in
    let i = c.loop-i.i in
    let step = digit_on us i c.in-Some.unit c.at.result c.is_digit.result (omega arith) c.at.ensures.is c.in-Some.is c.is_digit.ensures in
    sym (sym c.loop-i.invariant ∙ step ∙ ap (λ r. r && list_all is_digit (drop (i + 1) us)) c.if-not-is_digit.false)
