use Rattle.std.proofs.Common.{[], ◌∷◌, refl, ◌∙◌, arith}
use Rattle.es3_tree.specs.Tree as tree
use Rattle.es3_tree.specs.PlacedView as source
use Rattle.cajita_names.specs.Declarations.{declarations, declared_as, variable}
use Rattle.cajita_names.proofs.Declared.{turn}
use Rattle.cajita_names.proofs.declarations.add_items.Goals as goal

pub loop-item-preserved : goal.loop-item-preserved
unfolding declarations
loop-item-preserved c =
    turn (λ l. declarations tree.items (source.of_items l)) (declared_as variable (source.word c.item-item.result.name) ∷ []) c.args.items.now c.loop-item.item-index c.item-item.result _ _ (omega arith) c.item-item.is refl
    c.in_ok-push.ensures.ok
    ∙ c.loop-item.invariant
