use Rattle.std.proofs.Common.{◌≡◌, map, drop}
use Rattle.std.specs.List.{list_any}
use Rattle.serde_json.specs.View.{view}
use Rattle.page_manifest.specs.Walk.{has_only}
use Rattle.page_manifest.proofs.fields.check_object.Given as goal

abbrev pub invariant-loop-form : goal.invariant-loop-form
invariant-loop-form l = list_any (has_only (view l.v)) (map (λ form. map (λ field. field.now) form.now) (drop l.form-index l.forms)) ≡ list_any (has_only (view l.v)) (map (λ form. map (λ field. field.now) form.now) l.forms)
