use Rattle.std.proofs.Common.{◌≡◌, drop, map}
use Rattle.host_rules.specs.Plain.{plain}
use Rattle.host_services.specs.Services as s
use Rattle.host_services.specs.View.{rows_of}
use Rattle.host_services.proofs.service.Services.answer.Given as goal

abbrev pub invariant-loop-service : goal.invariant-loop-service
invariant-loop-service g l =
    s.answer (map (λ v. record { name = v.name; rows = rows_of v.rows.items; other = plain v.other }) (drop l.service-index l.service-items)) l.name (map plain l.args)
    ≡ s.answer (map (λ v. record { name = v.name; rows = rows_of v.rows.items; other = plain v.other }) l.service-items) l.name (map plain l.args)
