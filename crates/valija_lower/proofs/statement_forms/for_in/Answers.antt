use Rattle.std.proofs.Common.{ap, ◌+◌, ◌∙◌}
use Rattle.es3_tree.specs.PlacedView as source
use Rattle.cajita_names.specs.Views.{scope_of}
use Rattle.valija_forms.specs.Forms.{over_keys}
use Rattle.valija_parts.specs.Held as held
use Rattle.valija_parts.specs.Places.{put, gone_over}
use Rattle.valija_parts.specs.Views.{place_of}
use Rattle.valija_parts.proofs.Taken.{taken_three, fits_one}
use Rattle.valija_lower.proofs.statement_forms.for_in.Goals as goal

pub key_now-requires : goal.key_now-requires
key_now-requires c =
    fits_one c.args.first c.joined-2.result c.joined-3.result (c.in_ok-first.first, ((c.in_ok-first.target, c.in_ok-first.object), c.in_ok-first.body)) c.requires c.joined-3.ensures c.in_ok-first.was

pub over_keys-requires : goal.over_keys-requires
over_keys-requires c =
    fits_one c.args.first c.joined-2.result c.joined-3.result (c.in_ok-first.first, ((c.in_ok-first.target, c.in_ok-first.object), c.in_ok-first.body)) c.requires c.joined-3.ensures c.in_ok-first.was

pub returns : goal.returns
returns c x y z n count m k l d t g i h =
    let first = c.in_ok-first.first in
    let made =
    c.in_ok-over_keys.ensures
    ∙ ap (λ w. over_keys first (first + 1) (first + 2) w (source.expr c.in_ok-first.object.value) (source.stmt c.in_ok-first.body.value))
    (c.in_ok-written.ensures ∙ ap (λ e. put (scope_of c.args.scope.now) e (place_of c.in_ok-first.target)) c.in_ok-key_now.ensures) in
    taken_three place_of held.expr held.stmt held.stmt (gone_over (scope_of c.args.scope.now)) c.args.first c.args.target c.args.object c.args.body x y z n count m k l d
    c.joined.result c.joined-2.result c.joined-3.result (first, ((c.in_ok-first.target, c.in_ok-first.object), c.in_ok-first.body)) c.in_ok-over_keys.field-0
    t g i h c.joined.ensures c.joined-2.ensures c.joined-3.ensures c.in_ok-first.was made
