use Rattle.std.proofs.Common.{◌≡◌, ◌<◌, length, sym, ap, ◌∙◌, subst, arith}
use Rattle.std.specs.Prelude.{slice_set}
use Rattle.dom_handlers.specs.Kept.{places_from, AreKept}
use Rattle.dom_handlers.proofs.Kept.{kept_unpushed, kept_registered}
use Rattle.dom_handlers.proofs.handlers.Handlers.on.Goals as goal

pub invariant_of-self-in_err-push : goal.invariant_of-self-in_err-push
invariant_of-self-in_err-push c =
    let there : c.number-at.result < length c.reach.new.places.items = omega (arith, c.in_ok-reach.ensures.long) in
    let kept : AreKept (λ ps. ps.items) c.reach.new.places.items c.reserve.new.self.items = λ n. c.in_ok-reach.ensures.same n ∙ c.self.invariant n ∙ ap (places_from 0 n) (sym c.reserve.ensures.items) in
    kept_unpushed (λ ps. ps.items) c.reach.new.places.items c.reserve.new.self.items c.number-at.result c.index_mut.result.now c.push.new.self kept there c.index_mut.ensures.value c.in_err-push.ensures.items

pub invariant_of-self-2 : goal.invariant_of-self-2
invariant_of-self-2 c =
    let there : c.number-at.result < length c.reach.new.places.items = omega (arith, c.in_ok-reach.ensures.long) in
    let kept : AreKept (λ ps. ps.items) c.reach.new.places.items c.reserve.new.self.items = λ n. c.in_ok-reach.ensures.same n ∙ c.self.invariant n ∙ ap (places_from 0 n) (sym c.reserve.ensures.items) in
    let last : c.len-place.result ≡ length c.reserve.new.self.items = omega (arith, c.len-place.ensures) in
    let pushed = c.in_ok-push-2.ensures.items in
    subst (AreKept (λ ps. ps.items) (slice_set c.reach.new.places.items c.number-at.result c.push.new.self)) (sym pushed)
    (kept_registered (λ ps. ps.items) c.reach.new.places.items c.reserve.new.self.items c.number-at.result c.len-place.result _ c.index_mut.result.now c.push.new.self kept there c.index_mut.ensures.value c.in_ok-push.ensures.items (sym c.number-at.ensures) last)
