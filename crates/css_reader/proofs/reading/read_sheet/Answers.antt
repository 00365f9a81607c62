use Rattle.std.proofs.lemmas.Result.{IfOk-weaker}
use Rattle.css_reader.proofs.Says.{gives_says}
use Rattle.css_reader.proofs.reading.read_sheet.Goals as goal

pub returns : goal.returns
returns c = IfOk-weaker c.read.result _ _ (λ r h. gives_says r c.args.units.now h) c.read.ensures
