-- What is left decides.
use Rattle.std.proofs.Common.{◌≡◌, drop}
use Rattle.std.specs.List.{list_all}
use Rattle.es3_tokens.specs.Characters.{is_digit}
use Rattle.valija_rules.proofs.words.ends_in_digits.Given as goal

abbrev pub invariant-loop-i : goal.invariant-loop-i
invariant-loop-i l = list_all is_digit (drop l.i l.name) ≡ list_all is_digit (drop 2 l.name)
