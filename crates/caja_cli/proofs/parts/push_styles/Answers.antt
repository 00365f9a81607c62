use Rattle.std.proofs.Common.{◌++◌, sym, ap, ◌∙◌, append-nil}
use Rattle.std.proofs.lemmas.Slice.Zip.{either_empty_from_Zip}
use Rattle.caja_cli.proofs.Rests.{no_style_left}
use Rattle.caja_cli.proofs.parts.push_styles.Goals as goal

pub returns : goal.returns
returns c =
    let left = c.loop-style.style-iterator in
    let out = c.loop-style.out.items in
    let ended = either_empty_from_Zip left c.next.new.self c.next.result c.in-None.is c.next.ensures.steps in
    sym (append-nil out) ∙ ap (λ l. out ++ l) (sym (no_style_left left.a.rest.now left.b.rest.now ended)) ∙ c.loop-style.invariant
