use Rattle.std.proofs.Common.{◌≡◌, ◌<◌, length, get_or, ap, sym, ◌∙◌, subst, arith}
use Rattle.std.proofs.lemmas.Result.{IfOk-weaker, on_ok_weaker}
use Rattle.es3_heap.specs.Objects.{Object, Objects}
use Rattle.es3_heap.specs.Items.{last_item, without_last}
use Rattle.es3_heap.proofs.Items.{last-at, without_last-at}
use Rattle.es3_heap.proofs.heap.Heap.take_last.Goals as goal

pub returns-clause-answer : goal.returns-clause-answer
returns-clause-answer c =
    let h : Objects = record { list = c.self.inside.objects.items; counts = c.self.inside.counts.items } in
    let at = c.number-at.result in
    let x : Object = record { class = c.object.inside.class; proto = c.object.inside.proto; callable = c.object.inside.callable; tag = c.object.inside.tag; props = c.object.inside.props } in
    let read : x ≡ get_or h.list at x = subst (λ y. y ≡ get_or h.list at y) (sym c.object.view_is) c.index_mut-object.ensures.value in
    let within : at < length h.list = omega (arith, c.if-at-len.false, c.len.ensures) in
    IfOk-weaker c.take_last.result _ _ (λ r is. last-at h at x r within read is
    ∙ ap (λ g. last_item g at) c.self.view_is ∙ ap (last_item c.args.self.now) c.number-at.ensures) c.take_last.ensures.answer

pub returns-clause-store : goal.returns-clause-store
returns-clause-store c =
    let h : Objects = record { list = c.self.inside.objects.items; counts = c.self.inside.counts.items } in
    let at = c.number-at.result in
    let x : Object = record { class = c.object.inside.class; proto = c.object.inside.proto; callable = c.object.inside.callable; tag = c.object.inside.tag; props = c.object.inside.props } in
    let read : x ≡ get_or h.list at x = subst (λ y. y ≡ get_or h.list at y) (sym c.object.view_is) c.index_mut-object.ensures.value in
    let within : at < length h.list = omega (arith, c.if-at-len.false, c.len.ensures) in
    on_ok_weaker c.take_last.result (λ is. without_last-at h at x c.take_last.new.self within read is
    ∙ ap (λ g. without_last g at) c.self.view_is ∙ ap (without_last c.args.self.now) c.number-at.ensures) c.take_last.ensures.left
