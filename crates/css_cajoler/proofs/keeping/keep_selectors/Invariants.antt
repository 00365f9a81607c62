use Rattle.std.proofs.Common.{◌≡◌, take}
use Rattle.std.specs.List.{flat_map}
use Rattle.css_kept.specs.Kept.{scoped}
use Rattle.css_cajoler.proofs.keeping.keep_selectors.Given as goal

abbrev pub invariant-loop-selector : goal.invariant-loop-selector
invariant-loop-selector l = l.kept.items ≡ flat_map (scoped l.scope) (take l.selector-index l.selectors)
