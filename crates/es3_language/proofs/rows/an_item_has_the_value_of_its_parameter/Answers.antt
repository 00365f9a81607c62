use Rattle.std.proofs.Common.{refl}
use Rattle.std.specs.Fmt.{digits}
use Rattle.caja_units.specs.Index.{array_index}
use Rattle.es3_convert.specs.Conversions.{text_within}
use Rattle.es3_language.proofs.rows.an_item_has_the_value_of_its_parameter.Goals as goal

pub returns : goal.returns
unfolding digits array_index text_within
returns c = refl
