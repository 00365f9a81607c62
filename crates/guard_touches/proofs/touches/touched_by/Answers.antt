use Rattle.std.proofs.Common.{◌≡◌, true, subst}
use Rattle.std.specs.Prelude.{IfOk, is_some}
use Rattle.row_outcomes.specs.Arguments.{argument}
use Rattle.guard_runtime.specs.declared.Guard.TheVariants as g
use Rattle.guard_runtime.specs.Guards.{list_of}
use Rattle.guard_touches.specs.Touches.{told_if}
use Rattle.guard_touches.proofs.Rows.{set_tells, delete_tells, call_tells}
use Rattle.guard_touches.proofs.touches.touched_by.Goals as goal

pub returns-in-SetPub : goal.returns-in-SetPub
returns-in-SetPub c =
    let guard : c.args.guard ≡ g.SetPub = cc in
    let first : c.value_or-first.result.now ≡ argument 0 c.args.args.now = cc in
    let second : c.value_or-second.result.now ≡ argument 1 c.args.args.now = cc in
    subst (λ l. IfOk c.touch_at_text-in-SetPub.result (λ item. told_if item ≡ l))
    (set_tells c.args.guard c.args.by c.args.args.now c.args.h.now c.value_or-first.result.now c.value_or-second.result.now guard first second)
    c.touch_at_text-in-SetPub.ensures

pub returns-in-DeletePub : goal.returns-in-DeletePub
returns-in-DeletePub c =
    let guard : c.args.guard ≡ g.DeletePub = cc in
    let first : c.value_or-first.result.now ≡ argument 0 c.args.args.now = cc in
    let second : c.value_or-second.result.now ≡ argument 1 c.args.args.now = cc in
    subst (λ l. IfOk c.touch_at_text-in-DeletePub.result (λ item. told_if item ≡ l))
    (delete_tells c.args.guard c.args.by c.args.args.now c.args.h.now c.value_or-first.result.now c.value_or-second.result.now guard first second)
    c.touch_at_text-in-DeletePub.ensures

pub returns-in-CallPub : goal.returns-in-CallPub
returns-in-CallPub c =
    let guard : c.args.guard ≡ g.CallPub = cc in
    let first : c.value_or-first.result.now ≡ argument 0 c.args.args.now = cc in
    let second : c.value_or-second.result.now ≡ argument 1 c.args.args.now = cc in
    let third : c.value_or-third.result.now ≡ argument 2 c.args.args.now = cc in
    let list : is_some (list_of c.args.h.now c.value_or-third.result.now) ≡ true = cc in
    subst (λ l. IfOk c.touch_at_text-in-CallPub.result (λ item. told_if item ≡ l))
    (call_tells c.args.guard c.args.by c.args.args.now c.args.h.now c.value_or-first.result.now c.value_or-second.result.now c.value_or-third.result.now guard first second third list)
    c.touch_at_text-in-CallPub.ensures
