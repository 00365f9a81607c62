use Rattle.std.proofs.Common.{ℕ, List, ap, subst, ◌∙◌}
use Rattle.std.specs.Str.{chars}
use Rattle.std.proofs.lemmas.Str.{is_utf8-from_IsUtf8}
use Rattle.html_grammar.specs.Reading.{read}
use Rattle.html_reader.proofs.Answered.{answered, not_utf8}
use Rattle.html_reader.proofs.reading.read_html.Goals as goal
use Rattle.html_reader.specs.Gives.{Gives}

pub returns-in-Ok : goal.returns-in-Ok
returns-in-Ok c =
    answered c.read_text.result c.args.text.now (is_utf8-from_IsUtf8 c.args.text.now c.in-Ok.ensures.cases.1)
    (subst (λ a. Gives c.read_text.result a) (ap (λ (s : List ℕ). read (chars s)) c.in-Ok.ensures.cases.0) c.read_text.ensures)

pub returns-in-Err : goal.returns-in-Err
returns-in-Err c = (not_utf8 c.args.text.now c.in-Err.ensures.cases.0, c.valid_up_to.ensures ∙ c.in-Err.ensures.valid_len)
