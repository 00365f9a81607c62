use Rattle.std.proofs.Common.{◌≡◌, string_bytes, drop}
use Rattle.std.specs.List.{list_any}
use Rattle.command_words.specs.Matched.{is_dashes}
use Rattle.command_words.proofs.reading.have_dashes.Given as goal

abbrev pub invariant-loop-word : goal.invariant-loop-word
invariant-loop-word l = list_any (λ w. is_dashes (string_bytes w)) l.words ≡ list_any (λ w. is_dashes (string_bytes w)) (drop l.word-index l.words)
