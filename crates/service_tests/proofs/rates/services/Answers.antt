use Rattle.std.proofs.Common.{[], ◌∷◌, ◌++◌, map, sym, ap, subst, ◌∙◌}
use Rattle.std.specs.List.{IsDistinct}
use Rattle.caja_units.specs.Units.{same_units}
use Rattle.service_tests.proofs.rates.services.Goals as goal

pub new-requires-clause-once : goal.new-requires-clause-once
unfolding IsDistinct
new-requires-clause-once c =
    subst (λ list. IsDistinct same_units (map (λ v. v.name) list)) (sym (c.in_ok-push.ensures.items ∙ ap (λ l. l ++ c.in_ok-service.field-0 ∷ []) c.new-list.ensures.items)) (tt, tt)
