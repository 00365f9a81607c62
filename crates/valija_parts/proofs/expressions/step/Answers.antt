use Rattle.cajita_names.specs.Views.{scope_of}
use Rattle.valija_parts.specs.Held as held
use Rattle.valija_parts.specs.Places as wanted
use Rattle.valija_parts.specs.Views.{place_of}
use Rattle.valija_parts.proofs.Taken.{taken_one, fits_one}
use Rattle.valija_parts.proofs.expressions.step.Goals as goal

pub stepped-requires : goal.stepped-requires
stepped-requires c = fits_one c.args.first c.args.operand c.joined.result (c.in_ok-first.first, c.in_ok-first.operand) c.requires c.joined.ensures c.in_ok-first.was

pub returns : goal.returns
returns c x n count m k t g =
    taken_one place_of held.expr (wanted.stepped (scope_of c.args.scope.now) c.args.up c.args.before) c.args.first c.args.operand x n count m k c.joined.result (c.in_ok-first.first, c.in_ok-first.operand)
    c.in_ok-stepped.field-0 t g c.joined.ensures c.in_ok-first.was c.in_ok-stepped.ensures
