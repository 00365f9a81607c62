use Rattle.std.proofs.Common.{◌≡◌, Some, option_copied, ap, sym, ◌∙◌}
use Rattle.es3_heap.specs.Objects.{Object, object_at, props_of}
use Rattle.es3_heap.specs.Properties.{find, value_of, length_of, length_key}
use Rattle.es3_heap.proofs.Items.{length-array_items}
use Rattle.es3_heap.proofs.heap.Heap.item_count.Goals as goal

pub returns-in-Some : goal.returns-in-Some
returns-in-Some c =
    let h = c.args.self.now in
    let there : object_at h c.args.o ≡ Some c.in-Some.object.now = sym c.object.ensures ∙ ap option_copied c.in-Some.is in
    c.length.ensures ∙ ap (λ k. length_of (value_of (find k c.object-in-Some.inside.props))) c.self.invariant.named
    ∙ ap (λ (x : Object). length_of (value_of (find length_key x.props))) c.object-in-Some.view_is
    ∙ ap (λ x. length_of (value_of (find length_key (props_of x)))) (sym there) ∙ length-array_items h c.args.o
