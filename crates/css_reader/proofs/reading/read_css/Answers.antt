use Rattle.std.proofs.Common.{ℕ, List, inl, subst, ◌∙◌}
use Rattle.std.specs.Str.{chars}
use Rattle.std.proofs.lemmas.Str.{is_utf8-from_IsUtf8}
use Rattle.caja_units.specs.Utf8.{units_of_chars}
use Rattle.css_reader.proofs.Answered.{answered, not_utf8}
use Rattle.css_reader.proofs.reading.read_css.Goals as goal
use Rattle.css_reader.specs.Gives.{Decoded}

pub returns-in-Ok : goal.returns-in-Ok
returns-in-Ok c =
    answered c.read_text.result c.args.text.now (is_utf8-from_IsUtf8 c.args.text.now c.in-Ok.ensures.cases.1)
    (subst (λ (s : List ℕ). Decoded c.read_text.result (units_of_chars (chars s))) c.in-Ok.ensures.cases.0 c.read_text.ensures)

pub returns-in-Err : goal.returns-in-Err
returns-in-Err c = inl (not_utf8 c.args.text.now c.in-Err.ensures.cases.0, c.valid_up_to.ensures ∙ c.in-Err.ensures.valid_len)
