use Rattle.std.proofs.Common.{◌≡◌, ◌+◌, false, map, string_bytes, drop}
use Rattle.std.specs.Prelude.{option_map}
use Rattle.command_words.specs.Words.{number_at}
use Rattle.command_words.proofs.number_words.number_at.Given as goal

abbrev pub invariant-loop-index : goal.invariant-loop-index
invariant-loop-index l = number_at false (map string_bytes l.words) ≡ option_map (λ k. l.index + k) (number_at l.behind (map string_bytes (drop l.index l.words)))
