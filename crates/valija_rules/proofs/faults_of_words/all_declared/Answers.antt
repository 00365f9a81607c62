use Rattle.std.proofs.Common.{option_map, refl, ◌∙◌, arith}
use Rattle.es3_tree.specs.PlacedView as source
use Rattle.valija_rules.specs.Faults.{declared, all_declared}
use Rattle.cajita_rules.specs.Found.{fault_of}
use Rattle.cajita_rules.proofs.Order.{turn}
use Rattle.valija_rules.proofs.faults_of_words.all_declared.Goals as goal

pub loop-name-preserved : goal.loop-name-preserved
loop-name-preserved c =
    turn (λ l. all_declared (source.words l)) (declared (source.word c.name-item.result)) c.args.names.now c.loop-name.name-index c.name-item.result (option_map fault_of c.loop-name.found) _ _ (omega arith) c.name-item.is refl
    c.in_ok-declared.ensures.told c.picked-found.ensures
    ∙ c.loop-name.invariant
