use Rattle.dom_laws.proofs.Begun.{new_object, begins_as_rows, begins_in_order}
use Rattle.dom_laws.proofs.objects_are_made_as_rows_make_them.Goals as goal

pub returns : goal.returns
returns c = record { new = new_object; beginning = begins_as_rows; order = begins_in_order }
