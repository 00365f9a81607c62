use Rattle.std.proofs.Common.{◌≡◌, ◌∷◌, [], ◌++◌, arith, rules}
use Rattle.es3_heap.proofs.Items.{items_from-more}
use Rattle.es3_convert.proofs.array.array_items.Goals as goal

pub loop-index-preserved : goal.loop-index-preserved
loop-index-preserved c =
    let pushed : c.push.new.self.items ≡ c.loop-index.items.items ++ c.in_ok-item.item ∷ [] = search rules in
    items_from-more c.in_ok-count.count c.loop-index.index c.args.h.now c.args.o c.loop-index.items.items c.push.new.self.items _ c.in_ok-item.item (omega arith) c.loop-index.invariant c.in_ok-item.ensures pushed
