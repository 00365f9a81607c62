use Rattle.std.proofs.Common.{◌∙◌, sym, true, false, map, arith}
use Rattle.serde_json.specs.View.{view, members_view}
use Rattle.page_manifest.specs.Walk.{has_only}
use Rattle.page_manifest.proofs.Bytes.{only, is_object, first_form}
use Rattle.page_manifest.proofs.fields.check_object.Goals as goal

pub returns-then-has_only : goal.returns-then-has_only
returns-then-has_only c =
    is_object _ _ _ _ c.in-Some.ensures true
    (sym c.loop-form.invariant
    ∙ first_form (has_only (view c.args.v.now)) (λ form. map (λ field. field.now) form.now) c.args.forms.now c.loop-form.form-index _ true (omega arith)
    (sym (only (λ field. field.now) _ (view c.args.v.now) (members_view c.in-Some.members.now.entries) c.in-Some.ensures) ∙ sym c.has_only.ensures ∙ c.if-has_only.true))

pub loop-form-preserved : goal.loop-form-preserved
loop-form-preserved c =
    sym (first_form (has_only (view c.args.v.now)) (λ form. map (λ field. field.now) form.now) c.args.forms.now c.loop-form.form-index _ false (omega arith)
    (sym (only (λ field. field.now) _ (view c.args.v.now) (members_view c.in-Some.members.now.entries) c.in-Some.ensures) ∙ sym c.has_only.ensures ∙ c.if-has_only.false))
    ∙ c.loop-form.invariant
