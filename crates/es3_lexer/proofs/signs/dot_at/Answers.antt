use Rattle.std.proofs.Common.{sym, ap, ◌∙◌}
use Rattle.std.specs.Prelude.{if◌then◌else◌}
use Rattle.es3_lexer.proofs.signs.dot_at.Goals as goal
use Rattle.es3_lexer.proofs.Fronts.{rest_is}
use Rattle.es3_lexer.proofs.SignFronts.{dot_front}
use Rattle.es3_tokens.specs.Cut.{refuse}
use Rattle.es3_tokens.specs.Refusals.{number_form}
use Rattle.es3_tokens.specs.Steps.{sign_step}

pub returns-then-begins_with_digit : goal.returns-then-begins_with_digit
returns-then-begins_with_digit c = λ o. sym (dot_front o c.args.s.now _ c.begins_with_digit.result c.requires (rest_is 1 c.args.s.now) c.begins_with_digit.ensures ∙ ap (λ b. if b then refuse number_form else sign_step c.args.s.now) c.if-begins_with_digit.true)

pub returns-else-begins_with_digit : goal.returns-else-begins_with_digit
returns-else-begins_with_digit c = λ o. c.sign_at.ensures ∙ sym (dot_front o c.args.s.now _ c.begins_with_digit.result c.requires (rest_is 1 c.args.s.now) c.begins_with_digit.ensures ∙ ap (λ b. if b then refuse number_form else sign_step c.args.s.now) c.if-begins_with_digit.false)
