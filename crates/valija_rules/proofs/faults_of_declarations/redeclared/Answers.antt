use Rattle.std.proofs.Common.{option_map, ◌∙◌, arith}
use Rattle.cajita_rules.specs.Found.{fault_of}
use Rattle.valija_rules.proofs.Parts.{redeclared-turn}
use Rattle.valija_rules.proofs.faults_of_declarations.redeclared.Goals as goal

pub loop-declaration-preserved : goal.loop-declaration-preserved
loop-declaration-preserved c =
    redeclared-turn c.loop-declaration.before _ c.list-declaration-items.result.now c.loop-declaration.declaration-index c.declaration-item.result c.clashes_with_one-is_again.result (option_map fault_of c.loop-declaration.found)
    (option_map fault_of c.in_ok-word_fault.field-0) _ (omega arith) c.declaration-item.is c.clashes_with_one-is_again.ensures c.in_ok-word_fault.ensures.told c.picked-found.ensures c.in_ok-push.ensures.ok
    ∙ c.loop-declaration.invariant
