use Rattle.std.proofs.Common.{◌≡◌, ◌≤◌, drop, min}
use Rattle.std.specs.Str.Parse.{digits_value, digits_value_after}
use Rattle.html_tokens.proofs.references.value.Given as goal

abbrev pub invariant-loop-c : goal.invariant-loop-c
invariant-loop-c l = record { rest : min (digits_value_after l.base l.value (drop l.c-index l.digits)) 0x110000 ≡ min (digits_value l.base l.digits) 0x110000; small : l.value ≤ 0x110000 }
