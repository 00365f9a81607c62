use Rattle.html_cajoler.proofs.KeptSoFar.{text_kept}
use Rattle.html_cajoler.proofs.Oks.{ok_then}
use Rattle.html_cajoler.proofs.keeping.keep_text.Goals as goal
use Rattle.html_tree.specs.Views.{trees}

pub returns : goal.returns
returns c = ok_then c.push_units.result c.push_units.ensures (λ e r. text_kept (trees c.args.kept.now.nodes.items) c.args.kept.now.text.items c.args.text.now c.push_units.new.units.items r e)
