use Rattle.std.proofs.Common.{◌++◌}
use Rattle.valija_forms.specs.Forms as forms
use Rattle.valija_forms.proofs.Growing.{body_is}
use Rattle.valija_forms.proofs.bodies.body_from.Goals as goal

pub returns : goal.returns
returns c =
    body_is (forms.temporaries_from 0 c.args.taken ++ c.args.names.now) c.in_ok-body.body.items c.args.functions.items c.args.statements.items _ _ c.in_ok-body.ensures c.in_ok-append.ensures.items c.in_ok-append-2.ensures.items
