-- The rows of a service that has a rate for one ring of a bell, and for no other number.
use Rattle.std.specs.Prelude.{pos, List, [], ◌∷◌}
use Rattle.page_deeds.specs.Deeds.{number}
use Rattle.host_services.specs.Services.{Row}

abbrev pub rates : List Row
rates = record { args = number (pos 1) ∷ []; value = number (pos 7) } ∷ []
