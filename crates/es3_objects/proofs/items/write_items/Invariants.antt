use Rattle.std.proofs.Common.{◌≡◌, ◌+◌, length}
use Rattle.std.specs.Iterator.Adapters.{enumerate_source, enumerate_count}
use Rattle.std.specs.Vec.Iter.{into_iter_items, into_iter_len}
use Rattle.es3_objects.specs.Items.{with_items}
use Rattle.es3_objects.proofs.items.write_items.Given as goal

abbrev pub invariant-loop-index : goal.invariant-loop-index
invariant-loop-index l =
    let rest = into_iter_items (enumerate_source l.index-iterator) in
    (with_items (l.start + enumerate_count l.index-iterator) rest l.props ≡ with_items l.start l.fn.items.items l.initial.props)
    × (length rest ≡ into_iter_len (enumerate_source l.index-iterator))
    × (enumerate_count l.index-iterator + length rest ≡ length l.fn.items.items)
