use Rattle.std.proofs.Common.{◌≡◌, ◌++◌, ◌&&◌, not, map, filter, ap, ◌∙◌, rules}
use Rattle.std.specs.Vec.Iter.{into_iter_items}
use Rattle.es3_objects.specs.declared.properties.Name.{Name}
use Rattle.es3_heap.specs.Objects.{object_at, props_of}
use Rattle.es3_heap.specs.Enumerating.{shadowed}
use Rattle.es3_objects.specs.Held.{names_of}
use Rattle.es3_heap.proofs.Names.{added-named}
use Rattle.es3_heap.proofs.heap.Heap.push_keys.Goals as goal

pub loop-name-init : goal.loop-name-init
loop-name-init c =
    let ps = props_of (object_at c.args.self.now c.args.o) in
    let start : into_iter_items c.into_iter-name-iterator.result ≡ c.in_ok-name-items.name-items.items = search rules in
    let named : c.in_ok-name-items.name-items.items ≡ names_of ps = c.in_ok-name-items.ensures in
    ap (λ ns. c.args.keys.now.items ++ map (λ (n : Name). n.key) (filter (λ (n : Name). not n.attrs.dont_enum && not (shadowed c.args.self.now c.args.below.now n.key)) ns)) (start ∙ named)
    ∙ ap (λ l. c.args.keys.now.items ++ l) (added-named c.args.self.now c.args.below.now ps)
