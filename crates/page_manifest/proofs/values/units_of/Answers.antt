use Rattle.std.proofs.Common.{ap, ◌∙◌}
use Rattle.std.specs.Str.{chars}
use Rattle.caja_units.specs.Utf8.{units_of_chars}
use Rattle.page_manifest.proofs.Bytes.{units_are}
use Rattle.page_manifest.proofs.values.units_of.Goals as goal

pub returns-in-Ok : goal.returns-in-Ok
returns-in-Ok c = units_are _ _ c.in-Ok.ensures ∙ ap (λ bytes. units_of_chars (chars bytes)) c.as_bytes.ensures.value
