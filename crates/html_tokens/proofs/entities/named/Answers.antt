use Rattle.html_grammar.specs.Tables.{found}
use Rattle.html_tokens.specs.Found.{found_in}
use Rattle.html_tokens.proofs.entities.named.Goals as goal

pub returns : goal.returns
unfolding found found_in
returns c = c.find_in.ensures
