use Rattle.std.proofs.Common.{ap, ◌∙◌, arith, length}
use Rattle.std.specs.Char.{len_utf8}
use Rattle.std.specs.List.{sum_by}
use Rattle.html_reader.proofs.Widths.{chars_width, chars_fewer}
use Rattle.html_reader.proofs.reading.read_text.Goals as goal

pub read_all-requires-clause-bytes : goal.read_all-requires-clause-bytes
read_all-requires-clause-bytes c =
    let e = ap (sum_by len_utf8) (c.deref.ensures.value ∙ c.in_ok-list.ensures) ∙ chars_width c.args.text.now c.utf8.text in
    omega (arith, e)

pub read_all-requires-clause-small : goal.read_all-requires-clause-small
read_all-requires-clause-small c =
    let e = ap length (c.deref.ensures.value ∙ c.in_ok-list.ensures) in
    let f = chars_fewer c.args.text.now c.utf8.text in
    omega (arith, e, f)
