-- No tokens are spelled by two programs.
use Rattle.std.proofs.Common.{◌≡◌, List, sym, ◌∙◌}
use Rattle.es3_tree.specs.Tree as t
use Rattle.es3_tree.specs.Placed.{Placed}
use Rattle.es3_tokens.specs.Tokens as tokens
use Rattle.es3_grammar.specs.Spots.{Spot, spots}
use Rattle.es3_grammar.specs.Grammar.{Spells, free, spells}
use Rattle.es3_grammar.specs.Machine.{whole, read}
use Rattle.es3_grammar.proofs.Complete.{complete}

pub whole_is : (p q : Placed t.program) → whole p ≡ whole q → p ≡ q
whole_is p q e = cc

pub spots_read : (p : Placed t.program) (u : List Spot) → Spells t.program free 0 p u → read u ≡ whole p
spots_read p u h = complete t.program free 0 p u h

pub spelled_read : (p : Placed t.program) (ts : List tokens.Placed) → spells p ts → read (spots ts) ≡ whole p
spelled_read p ts h = spots_read p (spots ts) h

pub one_tree : (p q : Placed t.program) (ts : List tokens.Placed) → spells p ts → spells q ts → p ≡ q
one_tree p q ts h i = whole_is p q (sym (spelled_read p ts h) ∙ spelled_read q ts i)
