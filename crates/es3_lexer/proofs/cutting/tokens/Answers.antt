use Rattle.std.proofs.Common.{ℕ, List, Err, refl, sym, ap, subst, ◌∙◌}
use Rattle.std.specs.Str.{chars}
use Rattle.es3_lexer.proofs.cutting.tokens.Goals as goal
use Rattle.es3_lexer.specs.Answers.{Refuses, refusal_of}
use Rattle.es3_tokens.proofs.Sources.{cut_bad, cut_good}
use Rattle.es3_tokens.specs.Cut.{cut_chars}
use Rattle.es3_tokens.specs.Refusals.{not_utf8}

pub returns-in-Ok-cut_text : goal.returns-in-Ok-cut_text
returns-in-Ok-cut_text c = (cut_good c.args.limit c.args.source.now c.if-source-limit.false c.in-Ok.ensures.cases.1 ∙ ap (λ (s : List ℕ). cut_chars (chars s)) (sym c.in-Ok.ensures.cases.0) ∙ c.in-Ok-cut_text.ensures, refl)

pub returns-in-Err-cut_text : goal.returns-in-Err-cut_text
returns-in-Err-cut_text c =
    let e = ap (λ (s : List ℕ). cut_chars (chars s)) c.in-Ok.ensures.cases.0 ∙ sym (cut_good c.args.limit c.args.source.now c.if-source-limit.false c.in-Ok.ensures.cases.1) in
    subst (λ a. Refuses (refusal_of c.in-Err-cut_text.error) a) e c.in-Err-cut_text.ensures

pub returns-in-Err : goal.returns-in-Err
returns-in-Err c = cut_bad c.args.limit c.args.source.now c.if-source-limit.false c.in-Err.ensures.cases.0 ∙ ap (λ (p : ℕ). Err (not_utf8, p)) (sym (c.valid_up_to.ensures ∙ c.in-Err.ensures.valid_len))
