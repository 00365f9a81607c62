use Rattle.std.proofs.Common.{◌≡◌, take}
use Rattle.css_tree.specs.Views.{rules_of}
use Rattle.css_kept.specs.Printed.{printed}
use Rattle.css_cajoler.proofs.printing.print_css.Given as goal

abbrev pub invariant-loop-rule : goal.invariant-loop-rule
invariant-loop-rule l = l.out.items ≡ printed (rules_of (take l.rule-index l.sheet.rules.items))
