-- Which service a kept one is.
use Rattle.std.specs.Prelude.{List, map}
use Rattle.host_rules.specs.Plain.{plain}
use Rattle.host_services.specs.Services as s
use Rattle.host_services.specs.declared.service.Row.{Row}

abbrev pub row_of : Row → s.Row
row_of r = record { args = map plain r.args.items; value = plain r.value }

abbrev pub rows_of : List Row → List s.Row
rows_of rs = map row_of rs
