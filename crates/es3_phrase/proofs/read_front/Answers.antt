use Rattle.es3_phrase.proofs.AllTokens.{is_read, read_as}
use Rattle.es3_phrase.proofs.read_front.Goals as goal

pub unwrap-tree-requires : goal.unwrap-tree-requires
unwrap-tree-requires c = let l = rw c.in_ok-count.was at c.longest.ensures in is_read c.args.nest c.args.tokens.now l.0 c.in_ok-count.count c.in_ok-whole.field-0 l.1 c.in_ok-whole.ensures

pub returns : goal.returns
returns c = let l = rw c.in_ok-count.was at c.longest.ensures in read_as c.args.nest c.args.tokens.now l.0 c.in_ok-count.count c.in_ok-whole.field-0 c.unwrap-tree.result l.1 c.in_ok-whole.ensures c.unwrap-tree.ensures
