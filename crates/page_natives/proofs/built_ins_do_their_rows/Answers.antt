use Rattle.page_natives.proofs.Numbers.{built_ins_are_their_rows}
use Rattle.page_natives.proofs.built_ins_do_their_rows.Goals as goal

pub returns : goal.returns
returns c = built_ins_are_their_rows
