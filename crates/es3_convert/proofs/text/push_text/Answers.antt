use Rattle.std.proofs.Common.{◌<◌, length, ◌∙◌, arith}
use Rattle.std.proofs.lemmas.Grind.{common_steps}
use Rattle.std.proofs.lemmas.Option.{slice_get-get_or}
use Rattle.es3_convert.proofs.Arrays.{unit-pushed}
use Rattle.es3_convert.proofs.text.push_text.Goals as goal
use Rattle.es3_convert.proofs.text.push_text.Goals.{in-Some+in_ok-push, in_default}

pub loop-at-preserved : goal.loop-at-preserved
loop-at-preserved c =
    elim c.match-at.branch [
      | in-Some+in_ok-push w ↦ grind (arith, common_steps, unit-pushed)
      | in_default w ↦
          let within : c.loop-at.at < length c.args.text.now = omega arith in
          absurd (w.in_default.not-Some _ (c.at.ensures.is ∙ slice_get-get_or c.args.text.now c.loop-at.at 0 within))
    ]
