use Rattle.std.proofs.Common.{◌≡◌, ◌≤◌, ◌^◌, drop, min}
use Rattle.std.specs.Str.Parse.{digits_value, digits_value_after}
use Rattle.es3_lexer.proofs.numbers.value.Given as goal

abbrev pub invariant-loop-c : goal.invariant-loop-c
invariant-loop-c l = record { rest : min (digits_value_after l.base l.value (drop l.c-index l.digits)) (2 ^ 53) ≡ min (digits_value l.base l.digits) (2 ^ 53); small : l.value ≤ 2 ^ 53 }
