-- The program that stands for an accepted module is one that tokens spell.
use Rattle.std.proofs.Common.{◌≡◌, ℕ, ◌<◌, List, Some}
use Rattle.es3_tree.specs.Tree as t
use Rattle.es3_tree.specs.Placed as p
use Rattle.es3_tree.specs.Placed.{Placed}
use Rattle.es3_grammar.specs.Spots.{Spot}
use Rattle.es3_grammar.specs.Grammar.{free, Spells}
use Rattle.es3_printed.specs.Back.{AreTokens, IsSpelled}
use Rattle.cajita_tree.specs.Tree as c
use Rattle.cajita_rewrite.specs.Rewrite.{program_of}
use Rattle.scope_rules.specs.Resolve.{module_of}
use Rattle.source_sizes.specs.Sizes.{temps_everywhere}
use Rattle.cajoled_text.proofs.Modules.{module_is_spelled}
use Rattle.cajoled_text.proofs.Accepted.{accepted_is_clean}

pub rewritten_is_spelled : (grants : List (List ℕ)) (body : Placed t.stmts) (u : List Spot) (m : c.Tree c.program) → Spells t.program free 0 (p.script body) u → AreTokens u
    → module_of grants body ≡ Some m → temps_everywhere m < 18446744073709551616 → IsSpelled (program_of m)
rewritten_is_spelled grants body u m spelled tokens is few = module_is_spelled m (accepted_is_clean grants body u m spelled tokens is) few
