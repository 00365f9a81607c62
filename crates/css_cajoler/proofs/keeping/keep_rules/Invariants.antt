use Rattle.std.proofs.Common.{◌≡◌, take}
use Rattle.std.specs.Prelude.{option_copied}
use Rattle.css_tree.specs.Views.{rules_of}
use Rattle.css_kept.specs.Kept.{cleaned}
use Rattle.url_rule.specs.Table.{rows_of}
use Rattle.css_urls.specs.Answers.{for_sheets}
use Rattle.css_cajoler.proofs.keeping.keep_rules.Given as goal

abbrev pub invariant-loop-rule : goal.invariant-loop-rule
invariant-loop-rule g l =
    let a = for_sheets (rows_of l.urls.table.items) (option_copied l.base) in
    rules_of l.kept.items ≡ cleaned a l.scope (rules_of (take l.rule-index l.rules))
