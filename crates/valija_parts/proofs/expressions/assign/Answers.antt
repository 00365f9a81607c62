use Rattle.cajita_names.specs.Views.{scope_of}
use Rattle.valija_parts.specs.Held as held
use Rattle.valija_parts.specs.Places as wanted
use Rattle.valija_parts.specs.Views.{place_of}
use Rattle.valija_parts.proofs.Taken.{taken_both, fits_one}
use Rattle.valija_parts.proofs.expressions.assign.Goals as goal

pub assigned-requires : goal.assigned-requires
assigned-requires c = fits_one c.args.first c.joined.result c.joined-2.result (c.in_ok-first.first, (c.in_ok-first.target, c.in_ok-first.value)) c.requires c.joined-2.ensures c.in_ok-first.was

pub returns : goal.returns
returns c x y n count m k l t g i =
    taken_both place_of held.expr held.expr (wanted.assigned (scope_of c.args.scope.now) c.args.op) c.args.first c.args.target c.args.value x y n count m k l c.joined.result c.joined-2.result
    (c.in_ok-first.first, (c.in_ok-first.target, c.in_ok-first.value)) c.in_ok-assigned.field-0 t g i c.joined.ensures c.joined-2.ensures c.in_ok-first.was c.in_ok-assigned.ensures
