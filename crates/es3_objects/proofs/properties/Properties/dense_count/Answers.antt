use Rattle.std.proofs.Common.{◌≡◌, length, option_copied, Some, refl, ap, sym, ◌∙◌, arith}
use Rattle.es3_objects.proofs.Plain.{held-dense}
use Rattle.es3_objects.proofs.properties.Properties.dense_count.Goals as goal

pub returns-then-is_length : goal.returns-then-is_length
returns-then-is_length c =
    let x = c.self.inside.others in
    let some : c.self.inside.length ≡ Some c.in_ok-length.length.now = sym c.as_ref.ensures.value ∙ ap option_copied c.in_ok-length.was in
    let count : length c.slots-count.result.now ≡ length x.slots = ap length c.slots-count.ensures.held in
    held-dense c.self.inside.length c.in_ok-length.length.now x _ c.args.self.now some (c.if-is_length.ensures refl) (c.self.invariant c.if-self.true) (sym count) (omega (arith, count, c.slots-count.ensures.few)) c.self.view_is
