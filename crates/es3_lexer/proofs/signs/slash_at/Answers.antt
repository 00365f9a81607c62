use Rattle.std.proofs.Common.{sym, ap, ◌∙◌, refl}
use Rattle.std.specs.Prelude.{if◌then◌else◌}
use Rattle.es3_lexer.proofs.signs.slash_at.Goals as goal
use Rattle.es3_lexer.proofs.CommentFronts.{block_front, line_comment_front, open_front}
use Rattle.es3_lexer.proofs.Fronts.{rest_is}
use Rattle.es3_lexer.proofs.SignFronts.{slash_front}
use Rattle.es3_tokens.specs.Characters.{begins, is_slash, is_star}
use Rattle.es3_tokens.specs.Cut.{refuse}
use Rattle.es3_tokens.specs.Refusals.{reg_exp}
use Rattle.es3_tokens.specs.Steps.{sign_step}

pub returns-then-begins_with : goal.returns-then-begins_with
returns-then-begins_with c = line_comment_front c.args.operand c.args.s.now _ c.line_len-n.result _ c.requires (ap (begins is_slash) (sym (rest_is 1 c.args.s.now)) ∙ sym c.begins_with.ensures ∙ c.if-begins_with.true) (rest_is 2 c.args.s.now) c.line_len-n.ensures.is refl

pub returns-in-Some : goal.returns-in-Some
returns-in-Some c = block_front c.args.operand c.args.s.now _ c.in-Some.n _ c.has_line.result c.requires (ap (begins is_star) (sym (rest_is 1 c.args.s.now)) ∙ sym c.begins_with-2.ensures ∙ c.if-begins_with-2.true) (rest_is 2 c.args.s.now) c.in-Some.ensures.is refl c.has_line.ensures

pub returns-in-None : goal.returns-in-None
returns-in-None c = open_front c.args.operand c.args.s.now _ c.requires (ap (begins is_star) (sym (rest_is 1 c.args.s.now)) ∙ sym c.begins_with-2.ensures ∙ c.if-begins_with-2.true) (rest_is 2 c.args.s.now) c.in-None.ensures.is

pub returns-then-operand : goal.returns-then-operand
returns-then-operand c = sym (slash_front c.args.operand c.args.s.now _ c.requires (rest_is 1 c.args.s.now) (sym c.begins_with.ensures ∙ c.if-begins_with.false) (sym c.begins_with-2.ensures ∙ c.if-begins_with-2.false) ∙ ap (λ b. if b then refuse reg_exp else sign_step c.args.s.now) c.if-operand.true)

pub returns-else-operand : goal.returns-else-operand
returns-else-operand c = c.sign_at.ensures ∙ sym (slash_front c.args.operand c.args.s.now _ c.requires (rest_is 1 c.args.s.now) (sym c.begins_with.ensures ∙ c.if-begins_with.false) (sym c.begins_with-2.ensures ∙ c.if-begins_with-2.false) ∙ ap (λ b. if b then refuse reg_exp else sign_step c.args.s.now) c.if-operand.false)
