use Rattle.std.proofs.Common.{ap, ◌∙◌, arith}
use Rattle.std.specs.List.{sum_by}
use Rattle.std.specs.Char.{len_utf8}
use Rattle.es3_lexer.proofs.cutting.cut_text.Goals as goal
use Rattle.es3_tokens.proofs.Sources.{width_chars}

pub cut_chars-requires : goal.cut_chars-requires
cut_chars-requires c =
    let e = ap (sum_by len_utf8) (c.deref.ensures.value ∙ c.in_ok-list.ensures) ∙ width_chars c.args.text.now c.utf8.text in
    omega (arith, e)
