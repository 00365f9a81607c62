use Rattle.std.proofs.Common.{sym, ap, ◌∙◌}
use Rattle.es3_tree.specs.Token.{num}
use Rattle.es3_tokens.specs.Cut.{accept}
use Rattle.es3_lexer.proofs.NumberFronts.{number_front, whole_some, whole_none, whole_cast}
use Rattle.es3_lexer.proofs.numbers.number_at.Goals as goal

pub returns-then-goes_on : goal.returns-then-goes_on
returns-then-goes_on c = λ o. sym ((number_front o c.args.s.now c.goes_on.result c.longest_number-value.result.0 c.longest_number-value.result.1 c.requires c.longest_number-value.ensures.is c.goes_on.ensures).0 c.if-goes_on.true)

pub returns-in-Some : goal.returns-in-Some
returns-in-Some c = λ o.
    let w = whole_some c.longest_number-value.result.0 c.in-Some.number (whole_cast c.longest_number-value.result.0 _ c.longest_number-value.ensures.bounded (sym c.new.ensures ∙ c.in-Some.is)) in
    ap (λ n. accept (num n) c.longest_number-value.result.1) w.1
    ∙ sym ((number_front o c.args.s.now c.goes_on.result c.longest_number-value.result.0 c.longest_number-value.result.1 c.requires c.longest_number-value.ensures.is c.goes_on.ensures).1 c.if-goes_on.false w.0)

pub returns-in-None : goal.returns-in-None
returns-in-None c = λ o.
    sym ((number_front o c.args.s.now c.goes_on.result c.longest_number-value.result.0 c.longest_number-value.result.1 c.requires c.longest_number-value.ensures.is c.goes_on.ensures).2 c.if-goes_on.false
    (whole_none c.longest_number-value.result.0 (whole_cast c.longest_number-value.result.0 _ c.longest_number-value.ensures.bounded (sym c.new.ensures ∙ c.in-None.is))))
