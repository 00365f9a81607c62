use Rattle.std.proofs.Common.{◌≡◌, drop}
use Rattle.std.specs.List.{list_all}
use Rattle.url_rule.specs.Reading.{may_stand}
use Rattle.url_rule.proofs.texts.all_may_stand.Given as goal

abbrev pub invariant-loop-byte : goal.invariant-loop-byte
invariant-loop-byte l = list_all (may_stand l.kind) (drop l.byte-index l.text) ≡ list_all (may_stand l.kind) l.text
