use Rattle.html_tree.proofs.Rows.{view_element}
use Rattle.html_tree.proofs.make_element.Goals as goal

pub returns : goal.returns
returns c = view_element c.args.name c.args.attrs c.args.content
