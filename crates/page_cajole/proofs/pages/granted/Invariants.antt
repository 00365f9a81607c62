use Rattle.std.proofs.Common.{◌≡◌, map, take}
use Rattle.page_manifest.specs.View.{grants}
use Rattle.page_cajole.proofs.pages.granted.Given as goal

abbrev pub invariant-loop-name : goal.invariant-loop-name
invariant-loop-name l = l.names.items ≡ map (λ g. g.0) (grants (take l.name-index l.grants))
