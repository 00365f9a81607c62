use Rattle.std.proofs.Common.{map, sym, subst}
use Rattle.std.specs.List.{IsDistinct}
use Rattle.caja_units.specs.Units.{same_units}
use Rattle.host_services.proofs.service.Services.none.Goals as goal

pub new-requires-2-clause-once : goal.new-requires-2-clause-once
unfolding IsDistinct
new-requires-2-clause-once g c = subst (λ l. IsDistinct same_units (map (λ v. v.name) l)) (sym c.new.ensures.items) tt
