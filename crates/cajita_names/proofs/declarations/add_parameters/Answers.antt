use Rattle.std.proofs.Common.{[], ◌∷◌, map, refl, ◌∙◌, arith}
use Rattle.es3_tree.specs.PlacedView as source
use Rattle.cajita_names.specs.Declarations.{declared_as, parameter}
use Rattle.cajita_names.proofs.Declared.{turn}
use Rattle.cajita_names.proofs.declarations.add_parameters.Goals as goal

pub loop-name-preserved : goal.loop-name-preserved
loop-name-preserved c =
    turn (λ l. map (declared_as parameter) (source.words l)) (declared_as parameter (source.word c.name-item.result) ∷ []) c.args.names.now c.loop-name.name-index c.name-item.result _ _ (omega arith) c.name-item.is refl
    c.in_ok-push.ensures.ok
    ∙ c.loop-name.invariant
