use Rattle.std.proofs.Common.{◌≡◌, refl, sym, ap, ◌∙◌, arith}
use Rattle.es3_tree.specs.Tree as tree
use Rattle.es3_tree.specs.View.{of_items}
use Rattle.rewrite_parts.specs.Parts.{items_joined, temp_items}
use Rattle.rewrite_parts.proofs.Joined.{items-none, temps-turn}
use Rattle.rewrite_parts.proofs.heads.add_temporaries.Goals as goal

pub loop-number-init : goal.loop-number-init
loop-number-init c = sym (items-none (of_items c.args.items.now.items))

pub loop-number-preserved : goal.loop-number-preserved
loop-number-preserved c =
    temps-turn (of_items c.args.items.now.items) c.loop-number.number c.loop-number.items.items _ _ c.loop-number.invariant c.in_ok-temporary_name.ensures refl c.in_ok-push.ensures.items

pub returns : goal.returns
returns c =
    let ended : c.loop-number.number ≡ c.args.count = omega arith in
    c.loop-number.invariant ∙ ap (λ n. items_joined (of_items c.args.items.now.items) (temp_items 0 n tree.no_items)) ended
