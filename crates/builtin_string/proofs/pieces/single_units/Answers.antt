use Rattle.std.proofs.Common.{◌<◌, ◌∷◌, [], ◌++◌, length, ap, sym, ◌∙◌, arith}
use Rattle.std.proofs.lemmas.Option.{slice_get-get_or}
use Rattle.es3_objects.specs.declared.value.Value.TheVariants as v
use Rattle.builtin_string.proofs.Standing.{unit_more}
use Rattle.builtin_string.proofs.pieces.single_units.Goals as goal
use Rattle.builtin_string.proofs.pieces.single_units.Goals.{in-Some+in_ok-from_units+in_ok-push, in_default}

pub loop-at-preserved : goal.loop-at-preserved
loop-at-preserved c =
    elim c.match-at.branch [
      | in-Some+in_ok-from_units+in_ok-push w ↦
          unit_more c.args.text.now c.loop-at.at w.in-Some.unit c.loop-at.pieces.items c.match-at.pieces.items c.loop-at.invariant (sym c.at.ensures.is ∙ w.in-Some.is)
          (ap (λ p. p.items) w.pieces-is ∙ w.in_ok-push.ensures.items ∙ ap (λ t. c.loop-at.pieces.items ++ v.Text t ∷ []) w.in_ok-from_units.ensures)
      | in_default w ↦
          let within : c.loop-at.at < length c.args.text.now = omega arith in
          absurd (w.in_default.not-Some _ (c.at.ensures.is ∙ slice_get-get_or c.args.text.now c.loop-at.at 0 within))
    ]
