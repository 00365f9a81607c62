use Rattle.std.proofs.Common.{◌≡◌, drop, map}
use Rattle.css_kept.specs.Table.{is_in}
use Rattle.css_values.proofs.texts.stands_in.Given as goal

abbrev pub invariant-loop-entry : goal.invariant-loop-entry
invariant-loop-entry l = is_in (map (λ x. x.now) (drop l.entry-index l.table)) l.text ≡ is_in (map (λ x. x.now) l.table) l.text
