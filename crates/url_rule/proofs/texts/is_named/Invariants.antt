use Rattle.std.proofs.Common.{◌≡◌, drop}
use Rattle.std.specs.List.{list_all}
use Rattle.url_rule.specs.Reading.{is_name_part}
use Rattle.url_rule.proofs.texts.is_named.Given as goal

abbrev pub invariant-loop-i : goal.invariant-loop-i
invariant-loop-i l = list_all is_name_part (drop l.i l.text) ≡ list_all is_name_part (drop 1 l.text)
