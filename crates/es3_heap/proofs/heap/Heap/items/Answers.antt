use Rattle.std.proofs.Common.{◌≡◌, Some, option_copied, ap, sym, ◌∙◌}
use Rattle.std.proofs.lemmas.Result.{IfOk-weaker}
use Rattle.es3_objects.specs.Items.{values_in}
use Rattle.es3_heap.specs.Objects.{Object, object_at, props_of}
use Rattle.es3_heap.proofs.Items.{values-in}
use Rattle.es3_heap.proofs.heap.Heap.items.Goals as goal

pub returns-in-Some : goal.returns-in-Some
returns-in-Some c =
    let h = c.args.self.now in
    let there : object_at h c.args.o ≡ Some c.in-Some.object.now = sym c.object.ensures ∙ ap option_copied c.in-Some.is in
    let all = ap (λ (x : Object). values_in x.props) c.object-in-Some.view_is ∙ ap (λ x. values_in (props_of x)) (sym there) ∙ values-in h c.args.o in
    IfOk-weaker c.items.result _ _ (λ v is. is ∙ all) c.items.ensures
