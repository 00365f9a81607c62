use Rattle.std.proofs.Common.{sym, subst, ◌∙◌}
use Rattle.es3_lexer.proofs.cutting.cut_chars.Goals as goal
use Rattle.es3_tokens.proofs.Cut.{unmarked}
use Rattle.es3_lexer.specs.Answers.{Gives}

pub returns-else-begins_with : goal.returns-else-begins_with
returns-else-begins_with c = subst (λ a. Gives c.cut_all-else-begins_with.result a) (unmarked c.args.chars.now (sym c.begins_with.ensures ∙ c.if-begins_with.false)) c.cut_all-else-begins_with.ensures
