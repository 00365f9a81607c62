use Rattle.std.proofs.Common.{◌≡◌, ◌<◌, length, get_or, ap, sym, ◌∙◌, subst, arith}
use Rattle.std.proofs.lemmas.Result.{on_ok_weaker}
use Rattle.es3_heap.specs.Objects.{Object, Objects}
use Rattle.es3_heap.specs.Items.{append_items}
use Rattle.es3_heap.proofs.Items.{appended-at}
use Rattle.es3_heap.proofs.heap.Heap.append_items.Goals as goal

pub returns-clause-store : goal.returns-clause-store
returns-clause-store c =
    let h : Objects = record { list = c.self.inside.objects.items; counts = c.self.inside.counts.items } in
    let at = c.number-at.result in
    let x : Object = record { class = c.object.inside.class; proto = c.object.inside.proto; callable = c.object.inside.callable; tag = c.object.inside.tag; props = c.object.inside.props } in
    let read : x ≡ get_or h.list at x = subst (λ y. y ≡ get_or h.list at y) (sym c.object.view_is) c.index_mut-object.ensures.value in
    let within : at < length h.list = omega (arith, c.if-at-len.false, c.len.ensures) in
    let vs = c.args.items.items in
    on_ok_weaker c.append_items.result (λ is. appended-at h at x c.append_items.new.self vs within read is
    ∙ ap (λ g. append_items g at vs) c.self.view_is ∙ ap (λ i. append_items c.args.self.now i vs) c.number-at.ensures) c.append_items.ensures
