use Rattle.std.proofs.Common.{refl, false, arith}
use Rattle.std.specs.Prelude.{◌≡◌, max}
use Rattle.es3_tree.specs.Tree as t
use Rattle.es3_tree.specs.PlacedView.{expr}
use Rattle.es3_grammar.specs.Plain.{deep}
use Rattle.es3_grammar.specs.Sums.{capped}
use Rattle.es3_frames.proofs.sums.within_bracket.Goals as goal

pub returns-in-Subscript : goal.returns-in-Subscript
returns-in-Subscript c = rw c.in-Subscript.is (λ k h. c.round_part.ensures k.target _ false false h.target_is c.in-Subscript.part.right refl refl)

pub returns-in-Test : goal.returns-in-Test
returns-in-Test c =
    let deeper : c.max.result ≡ capped (max (deep t.expr (expr c.in-Test.part.tree.value)) 1) = (let right = c.in-Test.part.right in omega arith) in
    rw c.in-Test.is (λ k h. c.round_part-in-Test.ensures k.other _ k.part_opens false h.other_is deeper h.part_opens_is refl)
