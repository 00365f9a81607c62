use Rattle.std.proofs.Common.{◌≡◌, drop}
use Rattle.css_kept.specs.Selectors.{keeps}
use Rattle.css_values.proofs.selectors.keeps.Given as goal

abbrev pub invariant-loop-i : goal.invariant-loop-i
invariant-loop-i l = keeps (drop l.i l.selector) ≡ keeps l.selector
