use Rattle.std.proofs.Common.{◌≡◌, ◌++◌, false, sym, ap, ◌∙◌}
use Rattle.std.specs.Bool.{◌==◌}
use Rattle.std.specs.Vec.{vec_len}
use Rattle.es3_tree.specs.Placed as placed
use Rattle.es3_tree.specs.PlacedView as source
use Rattle.valija_forms.specs.Forms as forms
use Rattle.valija_forms.proofs.Growing.{a_head}
use Rattle.valija_forms.proofs.bodies.head.Goals as goal

pub returns : goal.returns
returns c =
    let full : (vec_len c.in_ok-items.items == 0) ≡ false = sym c.is_empty.ensures ∙ c.if-is_empty.false in
    ap source.of_stmts c.in_ok-from_array.ensures.items
    ∙ ap (λ s. placed.more_stmts s placed.no_stmts) c.make_var.ensures.with_places
    ∙ sym (a_head c.in_ok-items.items (forms.temporaries_from 0 c.args.taken ++ c.args.names.now) c.in_ok-items.ensures full)
