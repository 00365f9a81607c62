use Rattle.std.proofs.Common.{◌∙◌, ap, drop, arith}
use Rattle.rows.specs.Arguments.{clamped}
use Rattle.rows.specs.Texts.{first_place}
use Rattle.builtin_string.proofs.Standing.{first_is, within_text}
use Rattle.builtin_string.proofs.places.first_place.Goals as goal

pub returns-clause-is : goal.returns-clause-is
returns-clause-is c =
    let us = c.args.text.now in
    c.index_of.ensures ∙ first_is c.args.part.now us c.clamped.result (omega (arith, c.clamped.ensures.within, c.len.ensures.count))
    ∙ ap (λ i. first_place c.args.part.now i (drop i us)) (c.clamped.ensures.is ∙ ap (λ n. clamped n c.args.from) c.len.ensures.count)

pub returns-clause-within : goal.returns-clause-within
returns-clause-within c =
    within_text c.args.text.now c.args.part.now c.clamped.result 4294967294 c.index_of.result c.index_of.ensures (omega (arith, c.len.ensures.count, c.len.ensures.bound))
